-- What the tables say of the row at the place.
use Rattle.std.proofs.Common.{◌^◌, ◌<◌, ◌≤◌, length, get_or, arith}
use Rattle.std.proofs.lemmas.Option.{get_or_from_slice_get}
use Rattle.grove_access.specs.Lists.{nodes_of}
use Rattle.grove_proof.proofs.SummedRows.{lock_made, rows_in_tree, row_in, sum_read}
use Rattle.grove_proof.proofs.row_sums.RowSums.is_lock_balanced.Goals as goal

pub index-children-requires : goal.index-children-requires
index-children-requires c = let inside : (get_or c.args.self.now.rows.now c.args.place c.index-self-place.result).node < length c.args.self.now.above.items = (row_in _ _ _ _ _ _ c.args.place c.index-self-place.result c.requires.right c.requires.place).in_above in omega arith

pub weight-requires : goal.weight-requires
weight-requires c = (row_in _ _ _ _ _ _ c.args.place c.index-self-place.result c.requires.right c.requires.place).in_tree

pub overflow_add-result-2 : goal.overflow_add-result-2
overflow_add-result-2 c =
    let small : c.index-children.result.now ≤ 2 ^ 96 = sum_read c.args.self.now.above.items _ c.number.result c.index-children.result.now c.requires.right.above_bounded
    (row_in _ _ _ _ _ _ c.args.place c.index-self-place.result c.requires.right c.requires.place).in_above c.number.ensures.is_it c.index-children.ensures in
    omega arith

pub overflow_add-result-3 : goal.overflow_add-result-3
overflow_add-result-3 c =
    let small : c.index-children.result.now ≤ 2 ^ 96 = sum_read c.args.self.now.above.items _ c.number.result c.index-children.result.now c.requires.right.above_bounded
    (row_in _ _ _ _ _ _ c.args.place c.index-self-place.result c.requires.right c.requires.place).in_above c.number.ensures.is_it c.index-children.ensures in
    omega arith

pub overflow_add-result-4 : goal.overflow_add-result-4
overflow_add-result-4 c =
    let small : c.index-children.result.now ≤ 2 ^ 96 = sum_read c.args.self.now.above.items _ c.number.result c.index-children.result.now c.requires.right.above_bounded
    (row_in _ _ _ _ _ _ c.args.place c.index-self-place.result c.requires.right c.requires.place).in_above c.number.ensures.is_it c.index-children.ensures in
    omega arith

pub returns : goal.returns
returns c = λ row there.
    lock_made c.args.self.now.tree.now c.args.self.now.rows.now c.args.self.now.above.items (get_or c.args.self.now.rows.now c.args.place c.index-self-place.result) row
    c.number.result c.index-children.result.now c.weight.result c.requires.right.above_right
    (get_or_from_slice_get c.args.self.now.rows.now c.args.place row c.index-self-place.result there)
    (rows_in_tree c.args.self.now.tree.now (nodes_of c.args.self.now.list.now) c.args.self.now.rows.now c.requires.right.listed c.args.place row there)
    c.number.ensures.is_it c.index-children.ensures c.weight.ensures
