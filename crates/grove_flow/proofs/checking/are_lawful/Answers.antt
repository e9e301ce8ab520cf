use Rattle.std.proofs.Common.{Fits, w64, slice_index, length, refl, arith}
use Rattle.grove_flow.specs.Networks.{IsArcOf, arc_at}
use Rattle.grove_flow.proofs.Sending.{summed_start, summed_more}
use Rattle.grove_flow.proofs.checking.are_lawful.Goals as goal

pub loop-i-init : goal.loop-i-init
loop-i-init c = rw (c.requires.into, c.requires.out) (summed_start c.args.arcs.now c.args.amounts.now c.args.places.now c.args.most)

pub loop-i-preserved : goal.loop-i-preserved
loop-i-preserved c =
    let fits : Fits w64 (slice_index c.args.amounts.now c.loop-i.i) = c.type_inv.amounts c.loop-i.i in
    let arc : IsArcOf (length c.args.places.now) (arc_at c.args.arcs.now c.loop-i.i) = c.requires.arcs c.loop-i.i c.loop-i-test.true in
    rw c.from-amount.ensures (summed_more c.loop-i-test.true c.requires.amounts arc.from arc.to
    (omega arith) (omega arith) (c.if-not-is_lawful.ensures.0 refl) c.loop-i.invariant)
