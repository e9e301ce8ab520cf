use Rattle.grove_flow.proofs.Lowering.{AreRaisedTo}
use Rattle.grove_flow.proofs.settling.raise_to.Given as goal

abbrev pub invariant-loop-place : goal.invariant-loop-place
invariant-loop-place l = AreRaisedTo l.place-index l.top l.initial.places l.places
