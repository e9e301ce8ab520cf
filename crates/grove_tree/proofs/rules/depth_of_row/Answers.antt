use Rattle.std.proofs.Common.{arith}
use Rattle.grove_tree.proofs.Depths.{depth_step}
use Rattle.grove_tree.proofs.rules.depth_of_row.Goals as goal

pub loop-parent-preserved : goal.loop-parent-preserved
loop-parent-preserved c = grind (arith, depth_step)
