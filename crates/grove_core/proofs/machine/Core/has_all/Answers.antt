use Rattle.std.proofs.Common.{arith}
use Rattle.std.proofs.lemmas.Bool.{eqb-true, eq-eqb}
use Rattle.grove_core.proofs.CarriedCounts.{has_counted, counted_has}
use Rattle.grove_core.proofs.machine.Core.has_all.Goals as goal

pub returns : goal.returns
returns c = grind (arith, counted_has, eq-eqb, eqb-true, has_counted)
