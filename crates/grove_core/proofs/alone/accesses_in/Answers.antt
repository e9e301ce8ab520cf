use Rattle.std.proofs.Common.{arith}
use Rattle.grove_core.proofs.DoneInTurn.{list_read}
use Rattle.grove_core.proofs.AloneDone.{start_next}
use Rattle.grove_core.proofs.alone.accesses_in.Goals as goal

pub loop-txn-preserved : goal.loop-txn-preserved
loop-txn-preserved c = grind (arith, list_read, start_next)
