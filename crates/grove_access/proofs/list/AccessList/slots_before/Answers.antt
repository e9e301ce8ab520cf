use Rattle.std.proofs.Common.{add-one, arith}
use Rattle.grove_access.proofs.Slots.{length_read, few_slots, slots_few}
use Rattle.grove_access.proofs.list.AccessList.slots_before.Goals as goal

pub overflow_add-slots : goal.overflow_add-slots
overflow_add-slots c = grind (arith, few_slots, length_read, slots_few)

pub loop-earlier-preserved : goal.loop-earlier-preserved
loop-earlier-preserved c = grind (arith, add-one, length_read)

pub returns-clause-few : goal.returns-clause-few
returns-clause-few c = grind (arith, slots_few)
