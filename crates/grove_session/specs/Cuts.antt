-- What holds of the lines of all bytes.
use Rattle.std.specs.Prelude.{◌≡◌, ◌≢◌, ℕ, ◌≤◌, List, [], ◌∷◌, ◌++◌, length, All}
use Rattle.std.specs.List.{flat_map}
use Rattle.grove_session.specs.Sessions.{whole_lines, rest_of, lines_of}

-- whole lines, each with its line feed, and what stands after them are the input
abbrev pub LinesAreCut : Type 0
LinesAreCut = (input : List ℕ) → flat_map (λ (line : List ℕ). line ++ 10 ∷ []) (whole_lines input) ++ rest_of input
    ≡ input

-- no byte of the line is a line feed
abbrev pub IsFeedless : List ℕ → Type 0
IsFeedless line = All (λ (byte : ℕ). byte ≢ 10) line

-- no line has a line feed in it
abbrev pub LinesAreFeedless : Type 0
LinesAreFeedless = (input : List ℕ) → All IsFeedless (lines_of input)

-- there are at most as many lines as bytes
abbrev pub LinesAreFew : Type 0
LinesAreFew = (input : List ℕ) → length (lines_of input) ≤ length input
