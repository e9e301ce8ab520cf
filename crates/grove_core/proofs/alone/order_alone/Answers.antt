use Rattle.std.proofs.Common.{arith}
use Rattle.grove_core.proofs.AloneSerial.{order_of_one}
use Rattle.grove_core.proofs.alone.order_alone.Goals as goal

pub returns-then-jobs-eq1-clause-order : goal.returns-then-jobs-eq1-clause-order
returns-then-jobs-eq1-clause-order c = grind (arith, order_of_one)
