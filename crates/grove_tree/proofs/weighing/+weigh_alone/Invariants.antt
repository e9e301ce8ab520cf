use Rattle.std.proofs.Common.{length}
use Rattle.grove_tree.proofs.weighing.+weigh_alone.Given as goal

abbrev pub decreases-weigh_alone : goal.decreases-weigh_alone
decreases-weigh_alone g l = length l.rows.now
