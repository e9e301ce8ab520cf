use Rattle.std.proofs.Common.{arith}
use Rattle.grove_table.proofs.confirming.have_nodes.Goals as goal

pub loop-place-preserved : goal.loop-place-preserved
loop-place-preserved c = grind (arith)
