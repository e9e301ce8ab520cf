use Rattle.std.proofs.Common.{arith}
use Rattle.grove_core.proofs.machine.Core.next_step.Goals as goal

pub returns-in-None-clause-take : goal.returns-in-None-clause-take
returns-in-None-clause-take c = grind (arith)
