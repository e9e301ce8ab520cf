use Rattle.std.proofs.Common.{arith}
use Rattle.grove_base.proofs.Lists.{read_at}
use Rattle.grove_core.proofs.RunSteps.{plan_of_at}
use Rattle.grove_core.proofs.CoreOpens.{room_more}
use Rattle.grove_core.proofs.opening.room.Goals as goal

pub loop-txn-preserved : goal.loop-txn-preserved
loop-txn-preserved c = grind (arith, plan_of_at, read_at, room_more)
