use Rattle.std.proofs.Common.{◌≡◌, ◌++◌, take, drop}
use Rattle.grove_nodes.specs.Weighing.{weights_in}
use Rattle.grove_nodes.proofs.weighing.put_weights.Given as goal

abbrev pub invariant-loop-node : goal.invariant-loop-node
invariant-loop-node l = l.weights ≡ take l.node (weights_in l.tree) ++ drop l.node l.initial.weights
