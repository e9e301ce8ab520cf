use Rattle.std.proofs.Common.{◌≡◌, false}
use Rattle.std.specs.List.{slice_get}
use Rattle.grove_base.specs.Numbers.{any_below}
use Rattle.grove_plan.specs.Plans.{locks}
use Rattle.grove_core.proofs.alone.some_locks.Given as goal

abbrev pub invariant-loop-step : goal.invariant-loop-step
invariant-loop-step l = any_below l.step-index (λ i. locks l.node (slice_get l.steps i)) ≡ false
