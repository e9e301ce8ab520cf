use Rattle.grove_flow.proofs.Growing.{AreSettled}
use Rattle.grove_flow.proofs.tree.Tree.settle.Given as goal

abbrev pub invariant-loop-v : goal.invariant-loop-v
invariant-loop-v l = AreSettled l.v l.distance l.self.ranks.items l.self.entries.items l.initial.places l.places
