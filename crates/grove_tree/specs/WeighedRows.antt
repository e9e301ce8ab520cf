-- For the proofs alone: rows whose nodes get the weights that a rule gives.
use Rattle.std.specs.Prelude.{◌≡◌, ℕ, ◌+◌, ◌<◌, [], ◌∷◌, length, suc, ◌==◌, if◌then◌else◌}
use Rattle.grove_tree.specs.Trees.{Rows, weight_of, parent_of, name_of}

-- how many of the weights the rule changes
abbrev pub changes_from : (ℕ → ℕ → ℕ) → ℕ → Rows → ℕ
changes_from weight node [] = 0
changes_from weight node (row ∷ rows) = (if weight node row.weight == row.weight then 0 else 1) + changes_from weight
    (suc node) rows

-- a node has the same parent and the same name in both
abbrev pub AgreeAt : Rows → Rows → ℕ → Type 0
AgreeAt rows others node = (parent_of rows node ≡ parent_of others node) × (name_of rows node ≡ name_of others node)

-- the rule takes each node of the rows with its weight, the first row being that of the given node
abbrev pub AreTaken : (ℕ → ℕ → Type 0) → ℕ → Rows → Type 0
AreTaken takes node rows = (place : ℕ) → place < length rows → takes (node + place) (weight_of rows place)
