use Rattle.grove_flow.specs.Floors.{AreKept, heights}
use Rattle.grove_flow.proofs.settling.settle.Given as goal

abbrev pub invariant-loop-places : goal.invariant-loop-places
invariant-loop-places l = AreKept l.arcs l.amounts l.initial.places l.places

abbrev pub decreases-loop-places : goal.decreases-loop-places
decreases-loop-places l = heights l.places
