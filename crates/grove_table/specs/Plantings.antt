-- For the proofs alone: the nodes that lines need, as they are planted one by one.
use Rattle.std.specs.Prelude.{◌≡◌, ◌<◌, ◌⊎◌, ⊤, ℕ, List, length, map, slice_get, Some, string_bytes}
use Rattle.grove_table.specs.declared.fault.Reason.TheVariants.{NoParent, TooMany, TwiceNamed}
use Rattle.grove_table.specs.declared.fault.TableFault.{TableFault}
use Rattle.grove_table.specs.declared.fault.TableFault.TheVariants as fault
use Rattle.grove_table.specs.declared.line.Line.{Line}
use Rattle.grove_table.specs.declared.planting.Sprout.{Sprout}
use Rattle.grove_table.specs.Refusals.{IsBeyond, IsFirst, IsOrphan, IsRepeated, IsSpare, parent_path}

abbrev pub paths_of : List Sprout → List (List ℕ)
paths_of sprouts = map (λ sprout. sprout.path.now) sprouts

-- a line is refused for more paths than a tree has nodes, unless memory ran out
abbrev pub IsFullFault : Line → List (List ℕ) → TableFault → Type 0
IsFullFault line paths fault.Memory = ⊤
IsFullFault line paths (fault.Line fault) = (fault.number ≡ line.number) × (fault.reason ≡ TooMany)
    × (string_bytes fault.about ≡ string_bytes line.path) × (4096 < length paths)
IsFullFault line paths fault.Empty = ⊥
IsFullFault line paths fault.Unlike = ⊥

-- the first line that is spare is refused, unless memory ran out
abbrev pub IsSpareFault : List Line → TableFault → Type 0
IsSpareFault lines fault.Memory = ⊤
IsSpareFault lines (fault.Line fault) = (place : ℕ) × (line : Line) × (slice_get lines place ≡ Some line)
    × (fault.number ≡ line.number) × (string_bytes fault.about ≡ string_bytes line.path) × IsFirst (IsSpare lines) place
    × ((IsRepeated lines place × (fault.reason ≡ TwiceNamed)) ⊎ (IsBeyond lines place × (fault.reason ≡ TooMany)))
IsSpareFault lines fault.Empty = ⊥
IsSpareFault lines fault.Unlike = ⊥

-- the first orphan is refused, unless memory ran out
abbrev pub IsOrphanFault : List Line → TableFault → Type 0
IsOrphanFault lines fault.Memory = ⊤
IsOrphanFault lines (fault.Line fault) = (place : ℕ) × (line : Line) × (slice_get lines place ≡ Some line)
    × (fault.number ≡ line.number) × (fault.reason ≡ NoParent) × IsFirst (IsOrphan lines) place
    × (string_bytes fault.about ≡ parent_path (string_bytes line.path))
IsOrphanFault lines fault.Empty = ⊥
IsOrphanFault lines fault.Unlike = ⊥

-- no line is at fault
abbrev pub IsNoLinesFault : TableFault → Type 0
IsNoLinesFault fault.Memory = ⊤
IsNoLinesFault fault.Unlike = ⊤
IsNoLinesFault (fault.Line fault) = ⊥
IsNoLinesFault fault.Empty = ⊥
