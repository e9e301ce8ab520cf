-- The nodes that a list forces, by the tree alone, and each one's own accesses.
use Rattle.std.specs.Prelude.{◌≡◌, ℕ, Bool, false, not, ◌&&◌, List, length, slice_get, Option, Some, None}
use Rattle.grove_base.specs.Numbers.{any_below, passing_below, least_below, last_below}
use Rattle.grove_tree.specs.Trees.{Rows, IsAbove, is_above, is_at}

-- a node above every accessed node
abbrev pub IsCommon : Rows → List ℕ → ℕ → Type 0
IsCommon rows nodes node = (access target : ℕ) → slice_get nodes access ≡ Some target → IsAbove rows node target

-- a node that the list forces: above some accessed node, and below every node that is above all accessed nodes, so at
-- or below their lowest common one
pub record IsForcedByTree (rows : Rows) (nodes : List ℕ) (node : ℕ) : Type 0 where
  pub access : ℕ
  pub target : ℕ
  pub names : slice_get nodes access ≡ Some target
  pub covers : IsAbove rows node target
  pub below : (common : ℕ) → IsCommon rows nodes common → IsAbove rows common node

-- the same as tests

abbrev pub covers : Rows → ℕ → Option ℕ → Bool
covers rows high (Some low) = is_above rows high low
covers rows high None = false

abbrev pub is_common : Rows → List ℕ → ℕ → Bool
is_common rows nodes node = not (any_below (length nodes) (λ access. not (covers rows node (slice_get nodes access))))

abbrev pub is_forced : Rows → List ℕ → ℕ → Bool
is_forced rows nodes node =
    any_below (length nodes) (λ access. covers rows node (slice_get nodes access))
    && not (any_below (length rows) (λ common. is_common rows nodes common && not (is_above rows common node)))

-- the forced nodes, ascending
abbrev pub forced_nodes : Rows → List ℕ → List ℕ
forced_nodes rows nodes = passing_below (length rows) (is_forced rows nodes)

-- the accesses of a node itself: whether there are any, the first, and the end of the last: its number and one
abbrev pub names_at : List ℕ → ℕ → ℕ → Bool
names_at nodes node access = is_at node (slice_get nodes access)

abbrev pub is_accessed : List ℕ → ℕ → Bool
is_accessed nodes node = any_below (length nodes) (names_at nodes node)

abbrev pub first_access : List ℕ → ℕ → ℕ
first_access nodes node = least_below (length nodes) (names_at nodes node)

abbrev pub last_end : List ℕ → ℕ → ℕ
last_end nodes node = last_below (length nodes) (names_at nodes node)
