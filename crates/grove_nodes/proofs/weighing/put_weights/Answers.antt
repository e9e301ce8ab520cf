use Rattle.std.proofs.Common.{arith}
use Rattle.grove_nodes.proofs.Weighings.{told_next}
use Rattle.grove_nodes.proofs.weighing.put_weights.Goals as goal

pub loop-node-preserved : goal.loop-node-preserved
loop-node-preserved c = grind (arith, told_next)
