use Rattle.std.proofs.Common.{arith}
use Rattle.grove_access.specs.Lists.{lengths_of}
use Rattle.grove_access.proofs.Slots.{slots_rise}
use Rattle.grove_draw.proofs.bar.cost_of.Goals as goal

pub overflow_sub-held : goal.overflow_sub-held
overflow_sub-held c = omega (arith, slots_rise (lengths_of c.args.list.now) c.args.lock c.args.release c.requires.order)
