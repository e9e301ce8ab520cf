use Rattle.std.proofs.Common.{ℤ, length-append, get_or, pos, arith}
use Rattle.std.proofs.lemmas.Int.{ints}
use borrow.Author.Differences.{up}
use Rattle.grove_build.proofs.Walks.{gap_slots, gaps_more}
use Rattle.grove_build.proofs.places.gaps_of.Goals as goal

pub slot_of-requires-clause-low : goal.slot_of-requires-clause-low
slot_of-requires-clause-low c =
    let z : ℤ = get_or c.args.places.now c.loop-place.place-index (pos 0) in
    let in_gap = gap_slots c.args.slots.now z c.type_inv.slots (c.requires.between c.loop-place.place-index) in
    omega (arith, ints, in_gap.0, in_gap.1)

pub slot_of-requires-clause-high : goal.slot_of-requires-clause-high
slot_of-requires-clause-high c =
    let z : ℤ = get_or c.args.places.now c.loop-place.place-index (pos 0) in
    let in_gap = gap_slots c.args.slots.now z c.type_inv.slots (c.requires.between c.loop-place.place-index) in
    omega (arith, ints, in_gap.0, in_gap.1)

pub gap_of-gap-requires-clause-between : goal.gap_of-gap-requires-clause-between
gap_of-gap-requires-clause-between c =
    let z : ℤ = get_or c.args.places.now c.loop-place.place-index (pos 0) in
    let in_gap = gap_slots c.args.slots.now z c.type_inv.slots (c.requires.between c.loop-place.place-index) in
    grind (arith, ints, up)

pub loop-place-preserved : goal.loop-place-preserved
loop-place-preserved c = grind (arith, gap_slots, gaps_more, ints, length-append, up)
