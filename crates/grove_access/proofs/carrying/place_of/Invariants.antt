use Rattle.std.proofs.Common.{◌≡◌, drop, None}
use Rattle.grove_access.specs.Carries.{known_at}
use Rattle.grove_access.proofs.carrying.place_of.Given as goal

abbrev pub invariant-loop-place : goal.invariant-loop-place
invariant-loop-place l = known_at (drop l.place l.known) l.node ≡ None
