use Rattle.grove_run.proofs.Places.{HasPlaced}
use Rattle.grove_run.proofs.placing.places_in.Given as goal

abbrev pub invariant-loop-place : goal.invariant-loop-place
invariant-loop-place l = HasPlaced l.order l.jobs l.place l.places.items
