-- The first fault of a plan.
use Rattle.std.specs.Prelude.{ℕ, zero, suc, ◌==◌, nat_lt, Bool, false, not, ◌&&◌, List, length, slice_get, Option, Some}
use Rattle.std.specs.Prelude.{None, if◌then◌else◌}
use Rattle.std.specs.Option.{option_or}
use Rattle.grove_base.specs.Numbers.{any_below, least_below}
use Rattle.grove_tree.specs.Trees.{Rows, parent_of}
use Rattle.grove_plan.specs.declared.step.Step.{Step}
use Rattle.grove_plan.specs.declared.step.Step.TheVariants.{Lock, Unlock, Access}
use Rattle.grove_plan.specs.declared.fault.PlanFault.{PlanFault}
use Rattle.grove_plan.specs.declared.fault.PlanFault.TheVariants.{Strange, Relock, ParentNotHeld, NotHeld, WrongAccess}
use Rattle.grove_plan.specs.declared.fault.PlanFault.TheVariants.{AccessNotHeld, AccessMissing, StillHeld}
use Rattle.grove_plan.specs.Plans.{locks, is_lock, held}
use Rattle.grove_plan.specs.Slots.{accesses_before}

-- a node that may be missing is held at a position
abbrev pub is_held : List Step → ℕ → Option ℕ → Bool
is_held plan position None = false
is_held plan position (Some node) = held plan node position

-- an earlier step locks a node
abbrev pub is_later : List Step → ℕ → Bool
is_later plan position = any_below position (λ i. is_lock (slice_get plan i))

-- the first rule that a step breaks

abbrev pub lock_fault : Rows → List Step → ℕ → ℕ → Option PlanFault
lock_fault rows plan position node =
    if not (nat_lt node (length rows)) then Some (Strange position)
    else if any_below position (λ i. locks node (slice_get plan i)) then Some (Relock position)
    else if is_later plan position && not (is_held plan position (parent_of rows node)) then Some
    (ParentNotHeld position)
    else None

abbrev pub unlock_fault : Rows → List Step → ℕ → ℕ → Option PlanFault
unlock_fault rows plan position node =
    if not (nat_lt node (length rows)) then Some (Strange position)
    else if not (held plan node position) then Some (NotHeld position)
    else None

abbrev pub access_fault : List ℕ → List Step → ℕ → ℕ → Option PlanFault
access_fault nodes plan position access =
    if not (nat_lt access (length nodes)) then Some (Strange position)
    else if not (access == accesses_before plan position) then Some (WrongAccess position)
    else if not (is_held plan position (slice_get nodes access)) then Some (AccessNotHeld position)
    else None

abbrev pub step_fault : Rows → List ℕ → List Step → ℕ → Option Step → Option PlanFault
step_fault rows nodes plan position (Some (Lock node)) = lock_fault rows plan position node
step_fault rows nodes plan position (Some (Unlock node)) = unlock_fault rows plan position node
step_fault rows nodes plan position (Some (Access access)) = access_fault nodes plan position access
step_fault rows nodes plan position None = None

-- the fault of the first of the first n steps that has one
abbrev pub steps_fault : Rows → List ℕ → List Step → ℕ → Option PlanFault
steps_fault rows nodes plan zero = None
steps_fault rows nodes plan (suc n) = option_or (steps_fault rows nodes plan n)
    (step_fault rows nodes plan n (slice_get plan n))

-- what is wrong at the end: the first access that no step does, else the lowest node that is still held
abbrev pub end_fault : Rows → List ℕ → List Step → Option PlanFault
end_fault rows nodes plan =
    if nat_lt (accesses_before plan (length plan)) (length nodes) then Some
    (AccessMissing (accesses_before plan (length plan)))
    else if any_below (length rows) (λ node. held plan node (length plan)) then Some
    (StillHeld (least_below (length rows) (λ node. held plan node (length plan))))
    else None

-- the first fault of a plan, out of memory aside
abbrev pub plan_fault_of : Rows → List ℕ → List Step → Option PlanFault
plan_fault_of rows nodes plan = option_or (steps_fault rows nodes plan (length plan)) (end_fault rows nodes plan)
