use Rattle.std.proofs.Common.{◌≡◌, ◌++◌, take, drop}
use Rattle.std.specs.Vec.{vec_capacity}
use Rattle.grove_access.specs.Carries.{settled}
use Rattle.grove_access.proofs.carrying.settle_all.Given as goal

abbrev pub invariant-loop-place : goal.invariant-loop-place
invariant-loop-place l =
    (l.known.items ≡ settled l.entries (take l.place l.initial.known.items) ++ drop l.place l.initial.known.items)
    × (vec_capacity l.known ≡ vec_capacity l.initial.known)
