use Rattle.std.proofs.Common.{arith}
use Rattle.grove_core.proofs.CarriedEntries.{plan_read}
use Rattle.grove_core.proofs.AloneSerial.{plan_of_past}
use Rattle.grove_core.proofs.machine.Core.step_ahead.Goals as goal

pub returns-then-txn-jobs : goal.returns-then-txn-jobs
returns-then-txn-jobs c = grind (arith, plan_of_past)

pub returns : goal.returns
returns c = grind (arith, plan_read)
