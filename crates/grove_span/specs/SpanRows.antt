-- For the proofs alone: what the rows of a list's nodes tell of each node.
use Rattle.std.specs.Prelude.{◌≡◌, ℕ, suc, ◌-◌, ◌==◌, List, [], ◌∷◌, slice_get, Option, Some, None, option_map}
use Rattle.std.specs.Prelude.{option_and_then, if◌then◌else◌}
use Rattle.grove_tree.specs.Trees.{Rows, parent_of, weight_of}
use Rattle.grove_access.specs.Slots.{slots_before}
use Rattle.grove_access.specs.Forced.{forced_nodes, is_accessed, first_access, last_end}
use Rattle.grove_span.specs.declared.row.SpanRow.{SpanRow}

abbrev pub node_of_row : SpanRow → ℕ
node_of_row row = row.node

-- the place of a number in a list, where it is there
abbrev pub find_place : ℕ → List ℕ → Option ℕ
find_place v [] = None
find_place v (x ∷ xs) = if x == v then Some 0 else option_map suc (find_place v xs)

-- the place of a node's parent in a list of nodes
abbrev pub parent_place : Rows → List ℕ → ℕ → Option ℕ
parent_place tree span node = option_and_then (λ parent. find_place parent span) (parent_of tree node)

-- the numbers of the first and the last access of a node itself
abbrev pub first_access_of : List ℕ → ℕ → Option ℕ
first_access_of nodes node = if is_accessed nodes node then Some (first_access nodes node) else None

abbrev pub last_access_of : List ℕ → ℕ → Option ℕ
last_access_of nodes node = if is_accessed nodes node then Some (last_end nodes node - 1) else None

-- the slots before its first access, and before the end of its last one
abbrev pub from_of : List ℕ → List ℕ → ℕ → Option ℕ
from_of nodes lengths node = if is_accessed nodes node then Some (slots_before lengths (first_access nodes node)) else
    None

abbrev pub until_of : List ℕ → List ℕ → ℕ → Option ℕ
until_of nodes lengths node = if is_accessed nodes node then Some (slots_before lengths (last_end nodes node)) else None

-- each row has the place of its node's parent among the forced nodes
abbrev pub HaveParents : Rows → List ℕ → List SpanRow → Type 0
HaveParents tree nodes rows = (i : ℕ) (row : SpanRow) → slice_get rows i ≡ Some row
    → row.parent ≡ parent_place tree (forced_nodes tree nodes) row.node

-- each row has the weight of its node
abbrev pub HaveWeights : Rows → List SpanRow → Type 0
HaveWeights tree rows = (i : ℕ) (row : SpanRow) → slice_get rows i ≡ Some row → row.weight ≡ weight_of tree row.node

-- the first and last access of a row's node, and their slots
pub record IsAccessedSo (nodes lengths : List ℕ) (row : SpanRow) : Type 0 where
  pub first : row.first ≡ first_access_of nodes row.node
  pub last : row.last ≡ last_access_of nodes row.node
  pub from : row.from ≡ from_of nodes lengths row.node
  pub until : row.until ≡ until_of nodes lengths row.node

abbrev pub HaveAccesses : List ℕ → List ℕ → List SpanRow → Type 0
HaveAccesses nodes lengths rows = (i : ℕ) (row : SpanRow) → slice_get rows i ≡ Some row → IsAccessedSo nodes lengths row
