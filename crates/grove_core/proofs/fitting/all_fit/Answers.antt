use Rattle.std.proofs.Common.{arith}
use Rattle.grove_base.proofs.Lists.{read_at}
use Rattle.grove_core.proofs.RunSteps.{list_of_at}
use Rattle.grove_core.proofs.fitting.all_fit.Goals as goal

pub returns-then-not-fits : goal.returns-then-not-fits
returns-then-not-fits c = grind (arith, list_of_at, read_at)

pub loop-txn-preserved : goal.loop-txn-preserved
loop-txn-preserved c = grind (arith, list_of_at, read_at)
