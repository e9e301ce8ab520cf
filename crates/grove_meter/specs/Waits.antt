-- New weights from waits.
use Rattle.std.specs.Prelude.{ℕ, ◌+◌, ◌-◌, ◌/◌, min, List, slice_index}
use Rattle.grove_tree.specs.Trees.{Rows}
use Rattle.grove_tree.specs.Weights.{with_weights}

-- half of what a weight is above 1, and its waits, above 1 again, but at most 1,000
abbrev pub new_weight_of : ℕ → ℕ → ℕ
new_weight_of weight waits = min 1000 (1 + (weight - 1) / 2 + waits)

-- the rows of a tree, each node with its new weight by the waits at its number
abbrev pub reweighed : List ℕ → Rows → Rows
reweighed waits rows = with_weights (λ node weight. new_weight_of weight (slice_index waits node)) rows
