use Rattle.std.proofs.Common.{◌≡◌, drop}
use Rattle.grove_core.specs.Orders.{first_lock}
use Rattle.grove_core.proofs.locking.first_lock.Given as goal

abbrev pub invariant-loop-step : goal.invariant-loop-step
invariant-loop-step l = first_lock (drop l.step-index l.steps) ≡ first_lock l.steps
