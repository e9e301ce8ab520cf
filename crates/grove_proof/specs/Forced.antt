-- The forced nodes of a list of accesses, as a list.
use Rattle.std.specs.Prelude.{◌≡◌, ℕ, ◌<◌, ◌↔◌, List, slice_get, Some}
use Rattle.grove_tree.specs.Trees.{Rows}
use Rattle.grove_plan.specs.Plans.{IsForced}

-- a list ascends
abbrev pub Ascends : List ℕ → Type 0
Ascends xs = (i j a b : ℕ) → i < j → slice_get xs i ≡ Some a → slice_get xs j ≡ Some b → a < b

abbrev pub IsAmong : List ℕ → ℕ → Type 0
IsAmong xs x = (k : ℕ) × (slice_get xs k ≡ Some x)

-- a list is that of the forced nodes, ascending
pub record IsForcedList (rows : Rows) (nodes : List ℕ) (list : List ℕ) : Type 0 where
  pub ascends : Ascends list
  pub forced : (node : ℕ) → IsAmong list node ↔ IsForced rows nodes node
