use Rattle.std.proofs.Common.{◌≡◌, ℕ, ◌<◌}
use Rattle.grove_tree.specs.Trees.{weight_of}
use Rattle.grove_store.proofs.same.same_trees.Given as goal

abbrev pub invariant-loop-number : goal.invariant-loop-number
invariant-loop-number l = (node : ℕ) → node < l.number → weight_of l.tree node ≡ weight_of l.other node
