-- Climbing to the lowest node above two others.
use Rattle.std.proofs.Common.{◌≡◌, ℕ, zero, suc, ◌<◌, ◌≤◌, List, length, slice_get, get_or, Some, None, sym, ◌∙◌, arith}
use Rattle.std.proofs.lemmas.Option.{none-some, slice_get_within, slice_get-get_or}
use Rattle.grove_tree.specs.Trees.{Rows, IsAbove, IsTree, parent_of}
use Rattle.grove_tree.proofs.Above.{above_between, above_le, root_above}
use Rattle.grove_access.specs.Lists.{AreNodes}
use Rattle.grove_span.specs.Ways.{AreAscending, IsAscending, IsLowestCommon}

-- a node without a parent is above every node
pub top_above : (rows : Rows) → IsTree rows → (v w : ℕ) → v < length rows → w < length rows → parent_of rows v ≡ None → IsAbove rows v w
top_above rows tree zero w lt within none = root_above rows tree w within
top_above rows tree (suc u) w lt within none =
    let place : (parent : ℕ) × (parent_of rows (suc u) ≡ Some parent) × IsAbove rows parent u = tree.preorder u lt in
    absurd (none-some place.0 (sym none ∙ place.1))

-- the lowest node above the first and the last of ascending targets is the lowest above all
pub lowest_of_ends : (rows : Rows) (targets : List ℕ) (end first last top : ℕ) → IsTree rows → AreNodes rows targets
    → IsAscending targets
    → length targets ≡ suc end → slice_get targets 0 ≡ Some first → slice_get targets end ≡ Some last
    → IsAbove rows top first → IsAbove rows top last
    → ((node : ℕ) → IsAbove rows node first → IsAbove rows node last → IsAbove rows node top)
    → IsLowestCommon rows targets top
lowest_of_ends rows targets end first last top tree within ascending size first_at last_at over_first over_last least =
    record {
      common = λ place target at.
          let least_one : first ≤ target = ascending 0 place first target (omega arith) first_at at in
          let inside : place < length targets = slice_get_within targets place target at in
          let most : target ≤ last = ascending place end target last (omega arith) at last_at in
          let low : top ≤ first = above_le rows tree top first over_first in
          above_between rows tree top last target (within end last last_at) over_last (omega arith) most;
      lowest = λ node all. least node (all 0 first first_at) (all end last last_at);
    }

-- accessed nodes give targets
pub targets_some : (nodes targets : List ℕ) → AreAscending nodes targets → 0 < length nodes → 0 < length targets
targets_some nodes targets are some =
    let (i, there) = are.all 0 (get_or nodes 0 0) (slice_get-get_or nodes 0 0 some) in
    omega (arith, slice_get_within targets i (get_or nodes 0 0) there)
