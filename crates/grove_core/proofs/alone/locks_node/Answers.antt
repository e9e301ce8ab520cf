use Rattle.std.proofs.Common.{arith}
use Rattle.std.proofs.lemmas.Bool.{ltb-true, ltb-false}
use Rattle.grove_base.proofs.Lists.{read_at}
use Rattle.grove_core.proofs.RunSteps.{plan_of_at}
use Rattle.grove_core.proofs.AloneSerial.{plan_of_past}
use Rattle.grove_core.proofs.alone.locks_node.Goals as goal

pub returns-in-Some : goal.returns-in-Some
returns-in-Some c = grind (arith, ltb-true, plan_of_at, read_at)

pub returns-in-None : goal.returns-in-None
returns-in-None c = grind (arith, ltb-false, plan_of_past)
