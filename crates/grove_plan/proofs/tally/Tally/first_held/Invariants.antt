use Rattle.std.proofs.Common.{◌≡◌, false, Some}
use Rattle.grove_base.specs.Numbers.{any_below}
use Rattle.grove_plan.specs.Tallies.{holds_node}
use Rattle.grove_plan.proofs.tally.Tally.first_held.Given as goal

abbrev pub invariant-loop-node : goal.invariant-loop-node
invariant-loop-node l = any_below l.node (λ node. holds_node l.self.holds.items (Some node)) ≡ false
