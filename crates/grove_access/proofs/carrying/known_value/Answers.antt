use Rattle.std.proofs.Common.{arith, ◌≡◌, Some}
use Rattle.std.proofs.lemmas.Int.{to_z-of_z}
use Rattle.grove_access.specs.Carries.{known_at}
use Rattle.grove_access.proofs.CarriedNodes.{stands_value}
use Rattle.grove_access.proofs.carrying.known_value.Goals as goal

pub returns : goal.returns
returns c =
    let known : Some c.value_of.result ≡ known_at c.args.known.now c.args.node =
    stands_value c.args.known.now c.args.node c.in_ok-place.place c.index-known-place.result c.value_of.result c.in_ok-place.ensures c.index-known-place.is c.value_of.ensures in
    grind (arith, to_z-of_z, known)
