use Rattle.std.proofs.Common.{◌≡◌, false}
use Rattle.std.specs.List.{slice_get}
use Rattle.grove_base.specs.Numbers.{any_below}
use Rattle.grove_plan.specs.Plans.{unlocks}
use Rattle.grove_plan.specs.Slots.{accesses_before}
use Rattle.grove_plan.proofs.plan.Plan.release_slot.Given as goal

abbrev pub invariant-loop-step : goal.invariant-loop-step
invariant-loop-step l =
    (l.accesses ≡ accesses_before l.self l.step-index)
    × (any_below l.step-index (λ i. unlocks l.node (slice_get l.self i)) ≡ false)
