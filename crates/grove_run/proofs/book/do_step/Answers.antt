use Rattle.std.proofs.Common.{arith}
use Rattle.grove_run.proofs.Staying.{done_stays}
use Rattle.grove_run.proofs.book.do_step.Goals as goal

pub returns-in-Lock-clause-stays : goal.returns-in-Lock-clause-stays
returns-in-Lock-clause-stays c = grind (arith, done_stays)

pub returns-in-Unlock-clause-stays : goal.returns-in-Unlock-clause-stays
returns-in-Unlock-clause-stays c = grind (arith, done_stays)
