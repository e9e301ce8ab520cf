use Rattle.std.proofs.Common.{arith}
use Rattle.grove_core.proofs.OrderByLevels.{first_of}
use Rattle.grove_core.proofs.AloneSerial.{comes_none, comes_true, comes_early, comes_free}
use Rattle.grove_core.proofs.alone.InTurnPrecedence.first_after.Goals as goal

pub returns-in_default-clause-before : goal.returns-in_default-clause-before
returns-in_default-clause-before c = grind (arith, comes_none, first_of)

pub returns-then-locks_node-clause-found : goal.returns-then-locks_node-clause-found
returns-then-locks_node-clause-found c = grind (arith, comes_true, first_of)

pub loop-index-preserved : goal.loop-index-preserved
loop-index-preserved c = grind (arith, comes_early, comes_free, first_of)
