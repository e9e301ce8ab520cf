use Rattle.std.proofs.Common.{arith}
use Rattle.std.proofs.lemmas.Bool.{eqb-true}
use Rattle.grove_access.proofs.CarriedNodes.{sound_without, length-without}
use Rattle.std.proofs.lemmas.List.{nil_from_length}
use Rattle.grove_access.proofs.carry.Carry.give.Goals as goal

pub invariant_of-self-2 : goal.invariant_of-self-2
invariant_of-self-2 c = grind (arith, eqb-true, length-without, nil_from_length, sound_without)
