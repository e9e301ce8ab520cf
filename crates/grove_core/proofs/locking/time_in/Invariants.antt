use Rattle.std.proofs.Common.{◌≡◌, drop}
use Rattle.grove_core.specs.Cores.{time_in}
use Rattle.grove_core.proofs.locking.time_in.Given as goal

abbrev pub invariant-loop-lock : goal.invariant-loop-lock
invariant-loop-lock l = time_in (drop l.lock-index l.locked) l.node ≡ time_in l.locked l.node
