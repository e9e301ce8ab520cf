use Rattle.std.proofs.Common.{length}
use Rattle.grove_effects.proofs.Leading.{IsLed}
use Rattle.grove_effects.proofs.effect.apply_effect.Given as goal

abbrev pub invariant-loop-rest : goal.invariant-loop-rest
invariant-loop-rest l = IsLed l.fn.numbers l.bytes l.numbers l.from l.rest

abbrev pub decreases-loop-rest : goal.decreases-loop-rest
decreases-loop-rest l = length l.rest
