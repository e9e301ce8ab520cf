-- For the proofs alone: the depths of the nodes of a tree, by their numbers.
use Rattle.std.specs.Prelude.{◌≡◌, ℕ, ◌<◌, List, length, get_or}
use Rattle.grove_tree.specs.Trees.{Rows, depth_of}

-- those of the first nodes, so many of them
abbrev pub AreDepths : Rows → ℕ → List ℕ → Type 0
AreDepths rows count depths =
    (length depths ≡ count) × ((node other : ℕ) → node < count → get_or depths node other ≡ depth_of rows node)
