use Rattle.grove_flow.proofs.Starting.{AreMovedBelow}
use Rattle.grove_flow.proofs.solving.rebase.Given as goal

abbrev pub invariant-loop-place : goal.invariant-loop-place
invariant-loop-place l = AreMovedBelow l.place-index l.base l.initial.places l.places
