use Rattle.std.proofs.Common.{◌≡◌, ◌≤◌}
use Rattle.std.specs.List.{slice_get}
use Rattle.grove_base.specs.Numbers.{count_below}
use Rattle.grove_plan.specs.Plans.{is_lock}
use Rattle.grove_core.proofs.opening.lock_steps.Given as goal

abbrev pub invariant-loop-step : goal.invariant-loop-step
invariant-loop-step l = record {
  counted : l.locks ≡ count_below l.step-index (λ i. is_lock (slice_get l.steps i));
  few : l.locks ≤ l.step-index;
}
