use Rattle.std.proofs.Common.{sym, ◌∙◌, inl, inr, arith}
use Rattle.grove_base.proofs.Counting.{count_le}
use Rattle.grove_plan.specs.Plans.{unlocks, is_access}
use Rattle.grove_plan.proofs.AccessCounts.{count_on, count_found}
use Rattle.grove_plan.proofs.plan.Plan.release_slot.Goals as goal
use Rattle.grove_plan.proofs.plan.Plan.release_slot.Goals.{then-is_access, else-is_access}

pub returns-then-unlocks : goal.returns-then-unlocks
returns-then-unlocks c =
    rw (← (c.deref-step-items.ensures.value ∙ c.self.view_is))
    (count_found (unlocks c.args.node) c.deref-step-items.result.now c.loop-step.step-index c.loop-step.accesses c.step-item.result c.loop-step-test.true c.step-item.is
    (sym c.unlocks.ensures ∙ c.if-unlocks.true) (rw (c.deref-step-items.ensures.value ∙ c.self.view_is) c.loop-step.invariant))

pub overflow_add-accesses : goal.overflow_add-accesses
overflow_add-accesses c = grind (arith, count_le)

pub loop-step-preserved : goal.loop-step-preserved
loop-step-preserved c =
    rw (← (c.deref-step-items.ensures.value ∙ c.self.view_is))
    (count_on (unlocks c.args.node) c.deref-step-items.result.now c.loop-step.step-index c.loop-step.accesses c.if-is_access.accesses c.step-item.result c.loop-step-test.true c.step-item.is
    (sym c.unlocks.ensures ∙ c.if-unlocks.false) (rw (c.deref-step-items.ensures.value ∙ c.self.view_is) c.loop-step.invariant)
    (elim c.if-is_access.branch [
      | then-is_access w ↦ inl (sym c.is_access.ensures ∙ w.if-is_access.true, w.accesses-is)
      | else-is_access w ↦ inr (sym c.is_access.ensures ∙ w.if-is_access.false, w.accesses-is)
    ]))
