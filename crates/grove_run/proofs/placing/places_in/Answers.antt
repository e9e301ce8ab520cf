use Rattle.std.proofs.Common.{get_or}
use Rattle.std.proofs.lemmas.Option.{slice_get-get_or}
use Rattle.grove_run.proofs.Places.{placed_more, placed_all}
use Rattle.grove_run.proofs.placing.places_in.Goals as goal

pub loop-place-preserved : goal.loop-place-preserved
loop-place-preserved c =
    placed_more c.args.order.now c.args.jobs c.loop-place.place c.loop-place.places.items (get_or c.args.order.now c.loop-place.place 0) c.requires.once
    (slice_get-get_or c.args.order.now c.loop-place.place 0 c.loop-place-test.true) c.loop-place.invariant

pub returns : goal.returns
returns c = placed_all c.args.order.now c.args.jobs c.loop-place.place c.loop-place.places.items c.requires.once c.loop-place-test.false c.loop-place.invariant
