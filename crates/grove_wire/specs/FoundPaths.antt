-- For the proofs alone: paths that were looked up.
use Rattle.std.specs.Prelude.{◌≡◌, ℕ, List, slice_get, Option, Some}
use Rattle.grove_tree.specs.Trees.{Rows}
use Rattle.grove_tree.specs.Paths.{node_at}
use Rattle.grove_wire.specs.declared.finder.Found.{Found}

-- each stands with its node
abbrev pub AreFound : Rows → List (Option Found) → Type 0
AreFound rows found = (slot : ℕ) (one : Found) → slice_get found slot ≡ Some (Some one)
    → node_at rows one.path.now ≡ Some one.number
