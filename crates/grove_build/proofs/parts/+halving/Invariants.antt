use Rattle.std.proofs.Common.{length}
use Rattle.grove_build.proofs.parts.+halving.Given as goal

abbrev pub decreases-join+arg2 : goal.decreases-join+arg2
decreases-join+arg2 g l = length l.second.now

abbrev pub decreases-join+arg3 : goal.decreases-join+arg3
decreases-join+arg3 g l = length l.first.now

abbrev pub decreases-plan_parts : goal.decreases-plan_parts
decreases-plan_parts g l = length l.parts.now
