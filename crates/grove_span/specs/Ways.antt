-- For the proofs alone: what the tables say while a span is found.
use Rattle.std.specs.Prelude.{◌≡◌, ◌≢◌, ℕ, ◌+◌, ◌-◌, ◌<◌, ◌≤◌, ◌↔◌, List, length, map, slice_get, Option, Some, None}
use Rattle.std.specs.Prelude.{option_map, if◌then◌else◌}
use Rattle.grove_base.specs.Numbers.{any_below, passing_below, least_below, last_below}
use Rattle.grove_tree.specs.Trees.{Rows, IsAbove}
use Rattle.grove_access.specs.Slots.{slots_before}
use Rattle.grove_access.specs.Forced.{names_at, IsCommon, IsForcedByTree, is_forced}
use Rattle.grove_span.specs.SpanRows.{node_of_row, HaveParents, HaveWeights, HaveAccesses}
use Rattle.grove_span.specs.declared.row.SpanRow.{SpanRow}
use Rattle.grove_span.specs.declared.visit.Visits.{Visits}

-- the lowest node above all accessed ones
pub record IsLowestCommon (rows : Rows) (nodes : List ℕ) (top : ℕ) : Type 0 where
  pub common : IsCommon rows nodes top
  pub lowest : (node : ℕ) → IsCommon rows nodes node → IsAbove rows node top

-- numbers that don't fall
abbrev pub IsAscending : List ℕ → Type 0
IsAscending targets = (i j first second : ℕ) → i ≤ j → slice_get targets i ≡ Some first
    → slice_get targets j ≡ Some second → first ≤ second

-- the accessed nodes, ascending
pub record AreAscending (nodes targets : List ℕ) : Type 0 where
  pub named : (i target : ℕ) → slice_get targets i ≡ Some target → (access : ℕ) × (slice_get nodes access ≡ Some target)
  pub all : (access target : ℕ) → slice_get nodes access ≡ Some target → (i : ℕ) × (slice_get targets i ≡ Some target)
  pub rising : IsAscending targets

-- from a number up to a target, just the nodes above the target are forced
abbrev pub AreForcedTo : Rows → List ℕ → ℕ → ℕ → Type 0
AreForcedTo rows nodes next target = (node : ℕ) → next ≤ node → node ≤ target → IsForcedByTree rows nodes node
    ↔ IsAbove rows node target

-- no accessed node stands between a number and a target
abbrev pub IsFirstFrom : List ℕ → ℕ → ℕ → Type 0
IsFirstFrom nodes next target = (access node : ℕ) → slice_get nodes access ≡ Some node → next ≤ node → target ≤ node

-- no access names the node
abbrev pub IsUnnamed : List ℕ → ℕ → Type 0
IsUnnamed nodes node = (access : ℕ) → slice_get nodes access ≢ Some node

abbrev pub IsRising : List ℕ → Type 0
IsRising numbers = (i j low high : ℕ) → i < j → slice_get numbers i ≡ Some low → slice_get numbers j ≡ Some high
    → low < high

-- the rows of the forced nodes below n, and their numbers
pub record IsListedTo (rows : Rows) (nodes lengths : List ℕ) (n : ℕ) (numbers : List ℕ) (items : List SpanRow) : Type 0
  where
    pub counted : numbers ≡ passing_below n (is_forced rows nodes)
    pub listed : map node_of_row items ≡ numbers
    pub parents : HaveParents rows nodes items
    pub weights : HaveWeights rows items
    pub accesses : HaveAccesses nodes lengths items

-- all below a number are listed, and the next node is above this target, which is the next accessed one
pub record IsNextOnWay (rows : Rows) (nodes lengths : List ℕ) (next target node : ℕ) (numbers : List ℕ)
    (items : List SpanRow) : Type 0 where
  pub within : target < length rows
  pub above : IsAbove rows node target
  pub ahead : next ≤ node
  pub first : IsFirstFrom nodes next target
  pub forced : AreForcedTo rows nodes next target
  pub listed : IsListedTo rows nodes lengths next numbers items

-- the accesses of a node among the first n of a list
abbrev pub first_below : List ℕ → ℕ → ℕ → Option ℕ
first_below nodes n node = if any_below n (names_at nodes node) then Some (least_below n (names_at nodes node)) else
    None

abbrev pub last_below_of : List ℕ → ℕ → ℕ → Option ℕ
last_below_of nodes n node = if any_below n (names_at nodes node) then Some (last_below n (names_at nodes node) - 1)
    else None

pub record TellsOf (nodes : List ℕ) (n node : ℕ) (visits : Visits) : Type 0 where
  pub first : visits.first ≡ first_below nodes n node
  pub last : visits.last ≡ last_below_of nodes n node

-- the slots before the first access and before the end of the last one
pub record HaveSlots (lengths : List ℕ) (visits : Visits) : Type 0 where
  pub from : visits.from ≡ option_map (slots_before lengths) visits.first
  pub until : visits.until ≡ option_map (λ access. slots_before lengths (access + 1)) visits.last
