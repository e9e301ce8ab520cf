use Rattle.std.proofs.Common.{add-one, arith}
use Rattle.grove_base.proofs.Lists.{take_next}
use Rattle.grove_draw.proofs.picture.accesses_of.Goals as goal

pub loop-number-preserved : goal.loop-number-preserved
loop-number-preserved c = grind (arith, add-one, take_next)
