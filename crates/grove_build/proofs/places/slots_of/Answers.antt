use Rattle.std.proofs.Common.{length-append, add-one, arith}
use Rattle.grove_access.proofs.Slots.{length_read, few_slots, slots_few}
use Rattle.grove_build.proofs.Walks.{slots_pushed}
use Rattle.grove_build.proofs.places.slots_of.Goals as goal

pub overflow_add-before : goal.overflow_add-before
overflow_add-before c = grind (arith, few_slots, length_read, slots_few)

pub loop-access-preserved : goal.loop-access-preserved
loop-access-preserved c = grind (arith, add-one, length-append, length_read, slots_pushed)
