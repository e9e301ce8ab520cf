use Rattle.grove_wire.specs.Writing.{count_data}
use Rattle.grove_wire.specs.Replies.{weights_in_rows}
use Rattle.grove_wire.proofs.Written.{written_more, written_all}
use Rattle.grove_wire.proofs.Weights.{weights_within, weights_beyond, weight_is}
use Rattle.grove_wire.proofs.reply_values.tree_weights_value.Goals as goal

pub loop-number-preserved : goal.loop-number-preserved
loop-number-preserved c =
    let rows = c.args.tree.now in
    let small = rw c.len-number-end.ensures.number at c.loop-number-test.true in
    rw c.in_ok-push.ensures.items
    (written_more c.loop-number.items.items c.from.result
    (weights_in_rows rows) c.loop-number.number c.weight-weight.result
    (weights_within rows c.loop-number.number small) (weight_is rows c.loop-number.number c.weight-weight.result small (cc (c.weight-weight.ensures, c.new.ensures))) count_data c.loop-number.invariant c.from.ensures)

pub returns : goal.returns
returns c =
    let rows = c.args.tree.now in
    let beyond = rw c.len-number-end.ensures.number at c.loop-number-test.false in
    written_all c.loop-number.items (weights_in_rows rows) c.loop-number.number count_data
    (weights_beyond rows c.loop-number.number beyond) c.loop-number.invariant
