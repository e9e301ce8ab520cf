use Rattle.std.proofs.Common.{◌+◌, ◌*◌, length}
use Rattle.grove_tree.proofs.weighing.+fn-weigh-join_mut+arg2+fn-weigh-join_mut+arg3+weigh.Given as goal

abbrev pub decreases-join_mut+arg2 : goal.decreases-join_mut+arg2
decreases-join_mut+arg2 g l = 2 * length l.back.now + 1

abbrev pub decreases-join_mut+arg3 : goal.decreases-join_mut+arg3
decreases-join_mut+arg3 g l = 2 * length l.front.now + 1

abbrev pub decreases-weigh : goal.decreases-weigh
decreases-weigh g l = 2 * length l.rows.now
