use Rattle.std.proofs.Common.{◌≡◌, map}
use Rattle.grove_base.specs.Numbers.{numbers_below}
use Rattle.grove_core.specs.Kept.{past_of}
use Rattle.grove_core.specs.Runs.{waits_of}
use Rattle.grove_answer.proofs.running.waits_of.Given as goal

abbrev pub invariant-loop-number : goal.invariant-loop-number
invariant-loop-number l = l.waits.items ≡ map (waits_of l.core.jobs (past_of l.core)) (numbers_below l.number)
