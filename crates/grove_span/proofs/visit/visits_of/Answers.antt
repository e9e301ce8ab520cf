use Rattle.std.proofs.Common.{add-one, arith}
use Rattle.std.proofs.lemmas.Bool.{eqb-true, eq-eqb, both_ways}
use Rattle.grove_access.proofs.Lists.{node_at, nodes_length}
use Rattle.grove_access.proofs.Slots.{length_read, few_slots, slots_few}
use Rattle.grove_span.proofs.FirstAndLast.{tells_hit, tells_miss}
use Rattle.grove_span.proofs.VisitSlots.{slots_hit}
use Rattle.grove_span.proofs.visit.visits_of.Goals as goal

pub loop-number-init : goal.loop-number-init
loop-number-init c = grind (arith)

pub overflow_add-after : goal.overflow_add-after
overflow_add-after c = grind (arith, few_slots, length_read, slots_few)

pub loop-number-preserved : goal.loop-number-preserved
loop-number-preserved c =
    let list = c.args.list.now in
    let at = node_at list c.loop-number.number c.get-access.result c.get-access.ensures in
    grind (arith, add-one, both_ways, eq-eqb, eqb-true, length_read, slots_hit, tells_hit, tells_miss)

pub returns-clause-tells : goal.returns-clause-tells
returns-clause-tells c = grind (arith, nodes_length)
