-- The node that a plan's fault names is a node of the tree.
use Rattle.std.proofs.Common.{◌≡◌, ◌≢◌, ℕ, zero, suc, Bool, true, false, cond, List, length, slice_get, Option, Some, None, refl, subst, IfSome}
use Rattle.std.specs.Option.{option_or}
use Rattle.grove_base.specs.Numbers.{least_below}
use Rattle.grove_tree.specs.Trees.{Rows}
use Rattle.grove_base.proofs.Counting.{least_is}
use Rattle.grove_plan.specs.declared.step.Step.{Step}
use Rattle.grove_plan.specs.declared.step.Step.TheVariants.{Lock, Unlock, Access}
use Rattle.grove_plan.specs.declared.fault.PlanFault.{PlanFault}
use Rattle.grove_plan.specs.declared.fault.PlanFault.TheVariants.{Strange, Relock, ParentNotHeld, NotHeld, WrongAccess, AccessNotHeld, AccessMissing, StillHeld, Memory}
use Rattle.grove_plan.specs.Plans.{held}
use Rattle.grove_plan.specs.Slots.{accesses_before}
use Rattle.grove_plan.specs.Faults.{step_fault, steps_fault, end_fault, plan_fault_of}
use Rattle.grove_wire.specs.Texts.{FaultFits}

-- a fault, if there is one, fits the tree
record Fits (rows : Rows) (fault : Option PlanFault) : Type 0 where
  fits : IfSome fault (FaultFits rows)

no_fault : (rows : Rows) → Fits rows None
no_fault rows = record { fits = tt }

a_fault : (rows : Rows) (fault : PlanFault) → FaultFits rows fault → Fits rows (Some fault)
a_fault rows fault h = record { fits = h }

cond_fits : (rows : Rows) (b : Bool) (x y : Option PlanFault) → (b ≡ true → Fits rows x) → Fits rows y → Fits rows (cond b x y)
cond_fits rows true x y here there = here refl
cond_fits rows false x y here there = there

or_fits : (rows : Rows) (x y : Option PlanFault) → Fits rows x → Fits rows y → Fits rows (option_or x y)
or_fits rows (Some fault) y here there = here
or_fits rows None y here there = there

step_fits : (rows : Rows) (nodes : List ℕ) (plan : List Step) (place : ℕ) (step : Option Step) → Fits rows (step_fault rows nodes plan place step)
step_fits rows nodes plan place (Some (Lock node)) =
    cond_fits rows _ _ _ (λ e. a_fault rows (Strange place) tt) (cond_fits rows _ _ _ (λ e. a_fault rows (Relock place) tt)
    (cond_fits rows _ _ _ (λ e. a_fault rows (ParentNotHeld place) tt) (no_fault rows)))
step_fits rows nodes plan place (Some (Unlock node)) =
    cond_fits rows _ _ _ (λ e. a_fault rows (Strange place) tt) (cond_fits rows _ _ _ (λ e. a_fault rows (NotHeld place) tt) (no_fault rows))
step_fits rows nodes plan place (Some (Access access)) =
    cond_fits rows _ _ _ (λ e. a_fault rows (Strange place) tt) (cond_fits rows _ _ _ (λ e. a_fault rows (WrongAccess place) tt)
    (cond_fits rows _ _ _ (λ e. a_fault rows (AccessNotHeld place) tt) (no_fault rows)))
step_fits rows nodes plan place None = no_fault rows

steps_fit : (rows : Rows) (nodes : List ℕ) (plan : List Step) (n : ℕ) → Fits rows (steps_fault rows nodes plan n)
steps_fit rows nodes plan zero = no_fault rows
steps_fit rows nodes plan (suc n) =
    or_fits rows (steps_fault rows nodes plan n) (step_fault rows nodes plan n (slice_get plan n)) (steps_fit rows nodes plan n)
    (step_fits rows nodes plan n (slice_get plan n))

end_fits : (rows : Rows) (nodes : List ℕ) (plan : List Step) → Fits rows (end_fault rows nodes plan)
end_fits rows nodes plan =
    cond_fits rows _ _ _ (λ e. a_fault rows (AccessMissing (accesses_before plan (length plan))) tt)
    (cond_fits rows _ _ _
    (λ e. a_fault rows (StillHeld (least_below (length rows) (λ node. held plan node (length plan))))
    (least_is (length rows) (λ node. held plan node (length plan)) e).0)
    (no_fault rows))

first_fits : (rows : Rows) (nodes : List ℕ) (plan : List Step) → Fits rows (plan_fault_of rows nodes plan)
first_fits rows nodes plan =
    or_fits rows (steps_fault rows nodes plan (length plan)) (end_fault rows nodes plan) (steps_fit rows nodes plan (length plan)) (end_fits rows nodes plan)

-- what the judge refuses with fits the tree
pub fault_fits : (rows : Rows) (nodes : List ℕ) (plan : List Step) (fault : PlanFault)
    → (fault ≢ Memory → plan_fault_of rows nodes plan ≡ Some fault) → FaultFits rows fault
fault_fits rows nodes plan (Strange step) first = tt
fault_fits rows nodes plan (Relock step) first = tt
fault_fits rows nodes plan (ParentNotHeld step) first = tt
fault_fits rows nodes plan (NotHeld step) first = tt
fault_fits rows nodes plan (WrongAccess step) first = tt
fault_fits rows nodes plan (AccessNotHeld step) first = tt
fault_fits rows nodes plan (AccessMissing access) first = tt
fault_fits rows nodes plan (StillHeld node) first = (subst (Fits rows) (first (λ e. absurd (cc))) (first_fits rows nodes plan)).fits
fault_fits rows nodes plan Memory first = tt
