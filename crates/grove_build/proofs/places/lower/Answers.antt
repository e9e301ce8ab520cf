use Rattle.std.proofs.Common.{arith, pos}
use Rattle.std.proofs.lemmas.Int.{ints}
use Rattle.grove_build.proofs.Walks.{lower_set, read_self, lower_done}
use Rattle.grove_build.proofs.Cut.{lowered_more, lowered_less}
use Rattle.grove_build.proofs.places.lower.Goals as goal

pub loop-place-preserved : goal.loop-place-preserved
loop-place-preserved c = grind (arith, ints, lower_set, lowered_less, lowered_more, read_self)

pub returns : goal.returns
returns c = lower_done (pos c.args.slots) c.args.places.now c.loop-place.places c.loop-place.place-index
    c.loop-place-test.false c.loop-place.invariant
