use Rattle.std.proofs.Common.{arith}
use Rattle.grove_access.proofs.CarriedNodes.{sound_settled, length-settled}
use Rattle.grove_access.proofs.BucketCounts.{counts_settled}
use Rattle.grove_access.proofs.carry.Carry.settle.Goals as goal

pub invariant_of-self : goal.invariant_of-self
invariant_of-self c = grind (arith, counts_settled, length-settled, sound_settled)
