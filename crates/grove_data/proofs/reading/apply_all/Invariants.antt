use Rattle.std.proofs.Common.{length}
use Rattle.grove_data.proofs.Leading.{IsOnWay}
use Rattle.grove_data.proofs.reading.apply_all.Given as goal

abbrev pub invariant-loop-effect : goal.invariant-loop-effect
invariant-loop-effect l = IsOnWay l.initial.numbers l.initial.effects l.numbers l.effects

abbrev pub decreases-loop-effect : goal.decreases-loop-effect
decreases-loop-effect l = length l.effects
