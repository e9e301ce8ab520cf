-- Weights that are told once they are new.
use Rattle.std.proofs.Common.{◌≡◌, ℕ, zero, suc, ◌+◌, ◌<◌, ◌≤◌, List, [], ◌∷◌, ◌++◌, length, take, drop, slice_set}
use Rattle.std.proofs.Common.{refl, ap, arith}
use Rattle.grove_tree.specs.Trees.{Rows, weight_of}
use Rattle.grove_tree.proofs.WeightsByRule.{length-weighed_from}
use Rattle.grove_meter.specs.Waits.{reweighed}
use Rattle.grove_nodes.specs.Weighing.{weights_in}

-- new weights have the room that the old ones have
pub reweighed_fit : (waits : List ℕ) (old new : Rows) (room : ℕ) → new ≡ reweighed waits old → length old ≤ room
    → length new ≤ room
reweighed_fit waits old new room is fit = grind (arith, length-weighed_from)

put_next : (rows : Rows) (before : List ℕ) (node : ℕ) → node < length rows → length rows ≤ length before
    → slice_set (take node (weights_in rows) ++ drop node before) node (weight_of rows node)
    ≡ take (suc node) (weights_in rows) ++ drop (suc node) before
put_next [] before node lt room = absurd (omega arith)
put_next (row ∷ rows) [] node lt room = absurd (omega arith)
put_next (row ∷ rows) (first ∷ before) zero lt room = refl
put_next (row ∷ rows) (first ∷ before) (suc node) lt room =
    ap (λ (weights : List ℕ). row.weight ∷ weights) (put_next rows before node (omega arith) (omega arith))

-- one more weight is told
pub told_next : (rows : Rows) (before now : List ℕ) (node weight : ℕ)
    → now ≡ take node (weights_in rows) ++ drop node before
    → weight ≡ weight_of rows node → node < length rows → length rows ≤ length before
    → slice_set now node weight ≡ take (node + 1) (weights_in rows) ++ drop (node + 1) before
told_next rows before now node weight is gives lt room = grind (arith, put_next)
