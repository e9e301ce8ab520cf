use Rattle.std.proofs.Common.{◌≡◌, ℕ, ℤ, List, ◌-◌, ◌≤◌, length, slice_index, ap, ◌∙◌, arith, pos, to_z, of_z, w64}
use Rattle.std.proofs.lemmas.Int.{ints}
use Rattle.grove_base.proofs.Lists.{map_length}
use Rattle.grove_access.specs.declared.access.Access.{Access}
use Rattle.grove_access.specs.Lists.{nodes_of, lengths_of}
use Rattle.grove_access.specs.ListFaults.{AreLengths}
use Rattle.grove_access.specs.Slots.{slots_before}
use Rattle.grove_access.proofs.Slots.{slots_few}
use Rattle.grove_build.specs.Networks.{needs_from, AreSlots}
use Rattle.grove_build.proofs.Needs.{needs_size}
use Rattle.grove_build.proofs.Walks.{take_whole}
use Rattle.grove_build.proofs.Asked.{nodes_few, end_slots, slots_rising, gaps_are, rows_of_span, is_network, lowered_candidate, latest_between}
use Rattle.grove_build.proofs.solving.solve_rows.Goals as goal

pub network_of-requires : goal.network_of-requires
network_of-requires c = grind (arith, nodes_few, rows_of_span)

pub solution_of-requires-clause-needs : goal.solution_of-requires-clause-needs
solution_of-requires-clause-needs c = c.in_ok-network.ensures.needs ∙ ap needs_from c.requires.weights

pub latest-requires-clause-arcs : goal.latest-requires-clause-arcs
latest-requires-clause-arcs c =
    rw (c.in_ok-network.ensures.needs, c.requires.weights, c.in_ok-network.ensures.arcs)
    (is_network c.args.tree.now (nodes_of c.args.list.now) (lengths_of c.args.list.now) c.args.rows.now c.requires.span c.len-nodes.ensures.limits
    (nodes_few c.args.list.now c.len-accesses.ensures.few)).arcs_of

-- the slots of the whole list, as the highest place
top_is : (list : List Access) (slots : List ℕ) (from : ℤ) → length list ≤ 64 → AreLengths (lengths_of list)
    → AreSlots (lengths_of list) (length (nodes_of list)) slots → from ≡ pos (slice_index slots (length slots - 1))
    → (to_z w64 (of_z w64 from) ≡ pos (slots_before (lengths_of list) (length (nodes_of list))))
    × (slots_before (lengths_of list) (length (nodes_of list)) ≤ 64000)
top_is list slots from few lengths are is = grind (arith, end_slots, ints, nodes_few, slots_few)

pub latest-requires-clause-modest : goal.latest-requires-clause-modest
latest-requires-clause-modest c =
    let top = top_is c.args.list.now c.args.slots.now c.from.result c.len-accesses.ensures.few c.requires.span.are_lengths c.requires.slots c.from.ensures in
    (omega (arith, ints), omega (arith, ints))

pub latest-requires-clause-solved : goal.latest-requires-clause-solved
latest-requires-clause-solved c = grind (arith, end_slots, lowered_candidate, map_length, nodes_few, take_whole, top_is)

pub gaps_of-requires-clause-few : goal.gaps_of-requires-clause-few
gaps_of-requires-clause-few c = grind (arith, nodes_few)

pub gaps_of-requires-clause-rising : goal.gaps_of-requires-clause-rising
gaps_of-requires-clause-rising c =
    slots_rising (lengths_of c.args.list.now) c.args.slots.now (length (nodes_of c.args.list.now)) c.requires.slots

pub gaps_of-requires-clause-between : goal.gaps_of-requires-clause-between
gaps_of-requires-clause-between c =
    let latest = rw ((top_is c.args.list.now c.args.slots.now c.from.result c.len-accesses.ensures.few c.requires.span.are_lengths c.requires.slots c.from.ensures).0, c.in_ok-network.ensures.needs, c.requires.weights, c.in_ok-network.ensures.arcs, needs_size c.args.tree.now c.args.rows.now)
    at c.in_ok-places.ensures.latest in
    rw c.deref.ensures.value
    (latest_between c.args.tree.now (nodes_of c.args.list.now) (lengths_of c.args.list.now) c.args.rows.now c.requires.span
    c.len-nodes.ensures.limits (nodes_few c.args.list.now c.len-accesses.ensures.few) c.args.slots.now c.in_ok-solution.solution.amounts.items c.in_ok-places.places.items
    c.requires.slots latest)

pub returns : goal.returns
returns c = grind (arith, gaps_are, needs_size, top_is)
