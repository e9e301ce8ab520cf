use Rattle.std.proofs.Common.{length}
use Rattle.grove_tree.proofs.PathDescent.{IsFinding}
use Rattle.grove_tree.proofs.tree.Tree.find_names.Given as goal

abbrev pub invariant-loop-rest : goal.invariant-loop-rest
invariant-loop-rest l = IsFinding l.self l.fn.names l.rest l.at

abbrev pub decreases-loop-rest : goal.decreases-loop-rest
decreases-loop-rest l = length l.rest
