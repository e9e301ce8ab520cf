use Rattle.std.proofs.Common.{length, arith}
use Rattle.grove_nodes.proofs.Weighings.{reweighed_fit}
use Rattle.grove_nodes.proofs.weighing.reweigh_nodes.Goals as goal
use Rattle.grove_nodes.proofs.weighing.reweigh_nodes.Goals.{else-not-is_empty-via-then-not-is_empty+else-weights-nodes}
use Rattle.grove_nodes.proofs.weighing.reweigh_nodes.Goals.{else-not-is_empty-via-else-not-is_empty}

pub put_weights-requires : goal.put_weights-requires
put_weights-requires c =
    reweighed_fit c.args.waits.now c.args.tree.now c.reweigh_alone.new.tree (length c.args.weights.now)
    c.reweigh_alone.ensures.rows
    (elim c.else-not-is_empty.branch [
      | else-not-is_empty-via-then-not-is_empty+else-weights-nodes w ↦
          omega (arith, w.if-weights-nodes.false, c.len-nodes.ensures.number)
      | else-not-is_empty-via-else-not-is_empty w ↦
          absurd (cc (c.is_empty.ensures, c.is_empty-2.ensures, c.if-not-is_empty-2.true, w.if-not-is_empty.false))
    ])
