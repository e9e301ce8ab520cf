use Rattle.std.proofs.Common.{◌≡◌, ◌<◌, ◌-◌, ◌-ℤ◌, length, SFits, w64, arith, to_z-of_z}
use borrow.Author.Differences.{ints}
use Rattle.grove_flow.specs.Networks.{place}
use Rattle.grove_flow.proofs.Starting.{AreMovedBelow, moved_more}
use Rattle.grove_flow.proofs.solving.rebase.Goals as goal

pub loop-place-preserved : goal.loop-place-preserved
loop-place-preserved c =
    let base_near = c.requires.near (length c.args.places.now - 1) in
    let near = c.requires.near c.loop-place.place-index in
    let same : place c.loop-place.places c.loop-place.place-index ≡ place c.args.places.now c.loop-place.place-index = c.loop-place.invariant.rest c.loop-place.place-index (omega arith) in
    let base_fits : SFits w64 (place c.args.places.now (length c.args.places.now - 1)) = omega (arith, ints) in
    let place_fits : SFits w64 (place c.loop-place.places c.loop-place.place-index) = omega (arith, ints) in
    let apart_fits : SFits w64 (place c.loop-place.places c.loop-place.place-index -ℤ place c.args.places.now (length c.args.places.now - 1)) = omega (arith, ints) in
    let so_far : AreMovedBelow c.loop-place.place-index (place c.args.places.now (length c.args.places.now - 1)) c.args.places.now c.loop-place.places =
    simp to_z-of_z at c.loop-place.invariant in
    let lt : c.loop-place.place-index < length c.loop-place.places = omega arith in
    simp to_z-of_z (moved_more lt so_far)
