-- Rows with other weights.
use Rattle.std.specs.Prelude.{ℕ, suc, List, [], ◌∷◌, map, Option}
use Rattle.grove_tree.specs.Trees.{Rows}

-- the rows from the given node's on, with the weights that a rule gives to nodes by their numbers and old weights
abbrev pub weighed_from : (ℕ → ℕ → ℕ) → ℕ → Rows → Rows
weighed_from weight node [] = []
weighed_from weight node (row ∷ rows) = record { parent = row.parent; name = row.name; weight = weight node row.weight }
    ∷ weighed_from weight (suc node) rows

-- the rows of a tree with the weights that a rule gives
abbrev pub with_weights : (ℕ → ℕ → ℕ) → Rows → Rows
with_weights weight rows = weighed_from weight 0 rows

-- the rows without their weights
abbrev pub unweighed : Rows → List (Option ℕ × List ℕ)
unweighed rows = map (λ row. (row.parent, row.name)) rows

-- the weights of the rows
abbrev pub weights_of : Rows → List ℕ
weights_of rows = map (λ row. row.weight) rows
