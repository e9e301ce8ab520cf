-- What holds of every plan.
use Rattle.std.specs.Prelude.{◌≡◌, ℕ, List, None, ◌↔◌}
use Rattle.grove_tree.specs.Trees.{Rows}
use Rattle.grove_plan.specs.declared.step.Step.{Step}
use Rattle.grove_plan.specs.Plans.{IsLegal}
use Rattle.grove_plan.specs.Faults.{plan_fault_of}

-- a plan has no fault exactly where it is legal
abbrev pub FaultlessIsLegal : Type 0
FaultlessIsLegal = (rows : Rows) (nodes : List ℕ) (plan : List Step) → (plan_fault_of rows nodes plan ≡ None)
    ↔ IsLegal rows nodes plan
