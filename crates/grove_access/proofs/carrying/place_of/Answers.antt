use Rattle.std.proofs.Common.{arith}
use Rattle.std.proofs.lemmas.Bool.{eqb-true}
use Rattle.std.proofs.lemmas.Option.{slice_get_read}
use Rattle.grove_access.proofs.CarriedNodes.{stands_there}
use Rattle.grove_access.proofs.carrying.place_of.Goals as goal

pub returns-then-eq : goal.returns-then-eq
returns-then-eq c = grind (arith, eqb-true, slice_get_read, stands_there)
