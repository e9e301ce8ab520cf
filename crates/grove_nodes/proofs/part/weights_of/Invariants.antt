use Rattle.std.proofs.Common.{◌≡◌, map, take}
use Rattle.grove_nodes.specs.declared.part.PartNode.{PartNode}
use Rattle.grove_nodes.proofs.part.weights_of.Given as goal

abbrev pub invariant-loop-node : goal.invariant-loop-node
invariant-loop-node l = l.weights.items ≡ map (λ (node : PartNode). node.weight) (take l.node-index l.part)
