use Rattle.std.proofs.Common.{◌≡◌, length, Some, sym, ◌∙◌, ap, add-one, arith}
use Rattle.std.specs.List.{slice_get}
use Rattle.grove_base.proofs.Lists.{read_at}
use Rattle.grove_base.proofs.Counting.{any_from, any_miss}
use Rattle.grove_plan.specs.Plans.{locks}
use Rattle.grove_core.proofs.alone.some_locks.Goals as goal

pub returns-then-is_lock_of : goal.returns-then-is_lock_of
returns-then-is_lock_of c =
    let at : slice_get c.args.steps.now c.loop-step.step-index ≡ Some c.step-item.result =
    read_at c.args.steps.now c.loop-step.step-index c.step-item.result c.loop-step-test.true c.step-item.is in
    sym (any_from (length c.args.steps.now) (λ i. locks c.args.node (slice_get c.args.steps.now i))
    c.loop-step.step-index c.loop-step-test.true
    (ap (locks c.args.node) at ∙ sym c.is_lock_of.ensures ∙ c.if-is_lock_of.true))

pub loop-step-preserved : goal.loop-step-preserved
loop-step-preserved c = grind (arith, add-one, any_miss, read_at)
