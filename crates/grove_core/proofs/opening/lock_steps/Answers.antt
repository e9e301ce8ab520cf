use Rattle.std.proofs.Common.{arith, add-one}
use Rattle.grove_base.proofs.Lists.{read_at}
use Rattle.grove_core.proofs.CoreOpens.{locks_counted, locks_passed}
use Rattle.grove_core.proofs.opening.lock_steps.Goals as goal

pub loop-step-preserved : goal.loop-step-preserved
loop-step-preserved c = grind (arith, add-one, locks_counted, locks_passed, read_at)
