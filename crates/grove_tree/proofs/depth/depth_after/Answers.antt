use Rattle.std.proofs.Common.{arith}
use Rattle.grove_tree.proofs.Depths.{depth_below}
use Rattle.grove_tree.proofs.depth.depth_after.Goals as goal

pub bounds-before-parent : goal.bounds-before-parent
bounds-before-parent c = grind (arith, depth_below)

pub returns-in-Some : goal.returns-in-Some
returns-in-Some c = grind (arith, depth_below)
