use Rattle.grove_flow.proofs.Lowering.{IsSwept}
use Rattle.grove_flow.proofs.settling.sweep.Given as goal

abbrev pub invariant-loop-step : goal.invariant-loop-step
invariant-loop-step l = IsSwept l.way l.step l.arcs l.amounts l.initial.places l.places l.lowered
