use Rattle.std.proofs.Common.{arith}
use Rattle.grove_tree.proofs.Above.{parent_lt}
use Rattle.grove_plan.proofs.tally.Tally.holds_parent.Goals as goal

pub hold-requires : goal.hold-requires
hold-requires c = grind (arith, parent_lt)
