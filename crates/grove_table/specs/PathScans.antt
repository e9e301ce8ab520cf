-- For the proofs alone: paths, byte by byte.
use Rattle.std.specs.Prelude.{◌<◌, ◌≤◌, ◌==◌, ◌&&◌, ℕ, suc, nat_lt, Bool, false, List, [], ◌∷◌, length}
use Rattle.std.specs.Prelude.{Option, None, Some, if◌then◌else◌}
use Rattle.grove_tree.specs.Rules.{is_name_byte}
use Rattle.grove_table.specs.declared.fault.Reason.{Reason}
use Rattle.grove_table.specs.declared.fault.Reason.TheVariants.{BadHeader, BadFields, NotText, BadName, TooDeep}
use Rattle.grove_table.specs.declared.fault.Reason.TheVariants.{BadWeight, BadValue, TwiceNamed, NoParent, TooMany}
use Rattle.grove_table.specs.Refusals.{IsPathWith}

-- after so many bytes of a name, bytes go on to the end of a name
abbrev pub are_names_after : ℕ → List ℕ → Bool
are_names_after n [] = nat_lt 0 n
are_names_after n (byte ∷ bytes) =
    if byte == 47 then nat_lt 0 n && are_names_after 0 bytes
    else nat_lt n 32 && (is_name_byte byte && are_names_after (suc n) bytes)

-- a slash, and then names with a slash between two
abbrev pub has_names : List ℕ → Bool
has_names [] = false
has_names (byte ∷ bytes) = (byte == 47) && are_names_after 0 bytes

-- some names have the path
abbrev pub IsPath : List ℕ → Type 0
IsPath path = (names : List (List ℕ)) × IsPathWith names path

-- what may be wrong with a path
abbrev pub PathIs : List ℕ → Option Reason → Type 0
PathIs path None = (names : List (List ℕ)) × IsPathWith names path × (length names ≤ 32)
PathIs path (Some BadName) = ¬ IsPath path
PathIs path (Some TooDeep) = (names : List (List ℕ)) × IsPathWith names path × (32 < length names)
PathIs path (Some BadHeader) = ⊥
PathIs path (Some BadFields) = ⊥
PathIs path (Some NotText) = ⊥
PathIs path (Some BadWeight) = ⊥
PathIs path (Some BadValue) = ⊥
PathIs path (Some TwiceNamed) = ⊥
PathIs path (Some NoParent) = ⊥
PathIs path (Some TooMany) = ⊥
