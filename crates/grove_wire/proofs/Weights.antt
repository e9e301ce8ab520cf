-- The weights of a tree's rows, one after another.
use Rattle.std.proofs.Common.{◌≡◌, ℕ, zero, suc, ◌<◌, ◌≤◌, [], ◌∷◌, length, get_or, refl, ◌∙◌, arith}
use Rattle.grove_base.proofs.Lists.{map_length}
use Rattle.grove_tree.specs.Trees.{Rows, weight_of}
use Rattle.grove_wire.specs.Replies.{weights_in_rows}

-- there are as many as rows
pub weights_within : (rows : Rows) (node : ℕ) → node < length rows → node < length (weights_in_rows rows)
weights_within rows node small = rw (map_length (λ row. row.weight) rows) small

pub weights_beyond : (rows : Rows) (node : ℕ) → length rows ≤ node → length (weights_in_rows rows) ≤ node
weights_beyond rows node beyond = rw (map_length (λ row. row.weight) rows) beyond

-- the weight at a place is that of the node
weight_at : (rows : Rows) (node other : ℕ) → node < length rows
    → weight_of rows node ≡ get_or (weights_in_rows rows) node other
weight_at [] node other small = absurd (omega arith)
weight_at (row ∷ rows) zero other small = refl
weight_at (row ∷ rows) (suc node) other small = weight_at rows node other (omega arith)

pub weight_is : (rows : Rows) (node weight : ℕ) → node < length rows → weight ≡ weight_of rows node
    → weight ≡ get_or (weights_in_rows rows) node weight
weight_is rows node weight small is = is ∙ weight_at rows node weight small
