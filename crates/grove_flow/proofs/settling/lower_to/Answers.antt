use Rattle.std.proofs.Common.{arith, to_z-of_z}
use borrow.Author.Differences.{ints}
use Rattle.grove_flow.proofs.Lowering.{lowered_at}
use Rattle.grove_flow.proofs.settling.lower_to.Goals as goal

pub returns-then-lowers-clause-lowered : goal.returns-then-lowers-clause-lowered
returns-then-lowers-clause-lowered c = grind (arith, ints, lowered_at, to_z-of_z)
