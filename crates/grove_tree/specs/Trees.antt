-- A tree: a list of rows of a parent, a name and a weight, in preorder.
use Rattle.std.specs.Prelude.{◌≡◌, ℕ, zero, suc, ◌<◌, ◌==◌, Bool, false, List, length, slice_get, Option, Some, None}
use Rattle.std.specs.Prelude.{option_map, option_and_then, unwrap_or, []}
use Rattle.grove_base.specs.Numbers.{any_below}

pub record NodeRow : Type 0 where
  pub parent : Option ℕ
  pub name : List ℕ
  pub weight : ℕ

abbrev pub Rows : Type 0
Rows = List NodeRow

abbrev pub parent_of : Rows → ℕ → Option ℕ
parent_of rows node = option_and_then (λ row. row.parent) (slice_get rows node)

abbrev pub name_of : Rows → ℕ → List ℕ
name_of rows node = unwrap_or (option_map (λ row. row.name) (slice_get rows node)) []

abbrev pub weight_of : Rows → ℕ → ℕ
weight_of rows node = unwrap_or (option_map (λ row. row.weight) (slice_get rows node)) 0

-- the node that is n steps up from a node, or none where the way up is shorter
abbrev pub up : Rows → ℕ → ℕ → Option ℕ
up rows zero node = Some node
up rows (suc n) node = option_and_then (parent_of rows) (up rows n node)

-- a node is above itself and above what its children are above
abbrev pub IsAbove : Rows → ℕ → ℕ → Type 0
IsAbove rows high low = (n : ℕ) × (up rows n low ≡ Some high)

-- the rows of a tree: the first is the root, and every other row's parent is the row before it or above that row
pub record IsTree (rows : Rows) : Type 0 where
  pub some : 0 < length rows
  pub root : parent_of rows 0 ≡ None
  pub preorder : (node : ℕ) → suc node < length rows → (parent : ℕ) × (parent_of rows (suc node) ≡ Some parent)
      × IsAbove rows parent node

-- one more than the depth of a parent, and 0 where there is none
abbrev pub one_more : (ℕ → ℕ) → Option ℕ → ℕ
one_more depth None = 0
one_more depth (Some parent) = suc (depth parent)

-- the number of parents above a node, looked for at most so many steps up
abbrev pub depth_within : Rows → ℕ → ℕ → ℕ
depth_within rows zero node = 0
depth_within rows (suc n) node = one_more (depth_within rows n) (parent_of rows node)

-- the depth of a node: how many parents are above it
abbrev pub depth_of : Rows → ℕ → ℕ
depth_of rows node = depth_within rows (length rows) node

-- the same as tests

abbrev pub is_at : ℕ → Option ℕ → Bool
is_at node (Some other) = other == node
is_at node None = false

abbrev pub is_above : Rows → ℕ → ℕ → Bool
is_above rows high low = any_below (suc low) (λ n. is_at high (up rows n low))
