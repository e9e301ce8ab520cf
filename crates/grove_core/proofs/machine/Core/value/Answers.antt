use Rattle.std.proofs.Common.{arith}
use Rattle.std.proofs.lemmas.Int.{to_z-of_z}
use Rattle.grove_core.proofs.CoreReads.{seen, records_all}
use Rattle.grove_core.proofs.machine.Core.value.Goals as goal

pub get-requires : goal.get-requires
get-requires c = omega (arith, records_all (seen c.self.view_is c.self.invariant))

pub returns : goal.returns
returns c = grind (arith, seen, to_z-of_z)
