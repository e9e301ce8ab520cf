use Rattle.std.proofs.Common.{◌≡◌, ◌++◌, take, drop, map, pos}
use Rattle.grove_build.specs.Networks.{lowered}
use Rattle.grove_build.proofs.places.lower.Given as goal

abbrev pub invariant-loop-place : goal.invariant-loop-place
invariant-loop-place l = l.places ≡ map (lowered (pos l.slots)) (take l.place-index l.initial.places)
    ++ drop l.place-index l.initial.places
