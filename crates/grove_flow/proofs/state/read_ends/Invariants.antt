use Rattle.std.proofs.Common.{ℕ, ◌<◌}
use Rattle.grove_flow.specs.Networks.{arc_at}
use Rattle.grove_flow.proofs.state.read_ends.Given as goal

abbrev pub invariant-loop-arc : goal.invariant-loop-arc
invariant-loop-arc l = (i : ℕ) → i < l.arc-index → (arc_at l.arcs i).to < 4294967296
