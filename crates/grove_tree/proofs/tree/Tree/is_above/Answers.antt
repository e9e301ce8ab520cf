use Rattle.grove_tree.proofs.Above.{parent_lt}
use Rattle.grove_tree.proofs.tree.Tree.is_above.Goals as goal
use Rattle.std.proofs.Common.{arith}

pub is_on_way-requires-clause-rising : goal.is_on_way-requires-clause-rising
is_on_way-requires-clause-rising c = grind (arith, parent_lt)
