-- What a hint is.
use Rattle.std.specs.Prelude.{◌≡◌, ◌≢◌, ◌≤◌, ◌++◌, ℕ, List, [], All, codes, length}

-- a blank or a visible character of ASCII: no line feed, and nothing else that a terminal acts upon
abbrev pub IsPrintable : ℕ → Type 0
IsPrintable byte = (32 ≤ byte) × (byte ≤ 126)

-- a text that can stand in a line and says something
abbrev pub IsSaid : List ℕ → Type 0
IsSaid text = All IsPrintable text × (text ≢ []) × (length text ≤ 400)

-- one line, without its line feed
abbrev pub IsHint : List ℕ → Type 0
IsHint line = (text : List ℕ) × IsSaid text × (line ≡ codes "hint: " ++ text)
