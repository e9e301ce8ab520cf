use Rattle.std.proofs.Common.{◌≡◌, ◌<◌, length, Some, subst, arith}
use Rattle.std.proofs.lemmas.Int.{to_z-of_z}
use Rattle.std.proofs.lemmas.Option.{slice_get_within}
use Rattle.grove_access.specs.Carries.{known_at}
use Rattle.grove_access.specs.KnownPlaces.{StandsAt}
use Rattle.grove_access.proofs.CarriedNodes.{stands_value, without_none}
use Rattle.grove_access.proofs.carrying.release.Goals as goal

pub returns-in_err-place-clause-items : goal.returns-in_err-place-clause-items
returns-in_err-place-clause-items c = grind (arith, without_none)

pub remove-requires : goal.remove-requires
remove-requires c =
    let stands : StandsAt c.args.known.now.items c.args.node c.in_ok-place.place = subst (λ ks. StandsAt ks c.args.node c.in_ok-place.place) c.deref.ensures.value c.in_ok-place.ensures in
    let within : c.in_ok-place.place < length c.args.known.now.items = slice_get_within c.args.known.now.items c.in_ok-place.place stands.item stands.there in
    omega (arith, c.args.known.now.ok.0)

pub returns-clause-value : goal.returns-clause-value
returns-clause-value c =
    let stands : StandsAt c.args.known.now.items c.args.node c.in_ok-place.place = subst (λ ks. StandsAt ks c.args.node c.in_ok-place.place) c.deref.ensures.value c.in_ok-place.ensures in
    let known : Some c.value_of.result ≡ known_at c.args.known.now.items c.args.node =
    stands_value c.args.known.now.items c.args.node c.in_ok-place.place c.remove.result c.value_of.result stands c.remove.ensures.value c.value_of.ensures in
    grind (arith, to_z-of_z, known)
