use Rattle.std.proofs.Common.{ℕ, ◌<◌}
use Rattle.grove_flow.specs.Networks.{IsMet, arc_at}
use Rattle.grove_bench.proofs.networks.checking.are_met.Given as goal

abbrev pub invariant-loop-arc : goal.invariant-loop-arc
invariant-loop-arc l = (i : ℕ) → i < l.arc-index → IsMet (arc_at l.arcs i) l.places
