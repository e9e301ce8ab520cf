-- How a core is opened.
use Rattle.std.specs.Prelude.{◌≡◌, ℕ, ◌<◌, ⊤, List, length, Option, Some, None}
use Rattle.grove_tree.specs.Trees.{Rows}
use Rattle.grove_access.specs.Lists.{nodes_of, AreNodes}
use Rattle.grove_plan.specs.declared.fault.PlanFault.{PlanFault}
use Rattle.grove_plan.specs.Faults.{plan_fault_of}
use Rattle.grove_core.specs.declared.job.Job.{Job}
use Rattle.grove_core.specs.declared.fault.OpenFault.{OpenFault}
use Rattle.grove_core.specs.declared.fault.OpenFault.TheVariants.{BadPlan, Memory}
use Rattle.grove_core.specs.Runs.{list_of, plan_of}

-- each job's list names nodes of the tree
abbrev pub AllFit : Rows → List Job → Type 0
AllFit rows jobs = (t : ℕ) → t < length jobs → AreNodes rows (nodes_of (list_of jobs t))

abbrev pub job_fault : Rows → List Job → ℕ → Option PlanFault
job_fault rows jobs t = plan_fault_of rows (nodes_of (list_of jobs t)) (plan_of jobs t)

-- the lowest job with a fault, and its fault
abbrev pub IsFirstFault : Rows → List Job → OpenFault → Type 0
IsFirstFault rows jobs (BadPlan t fault) = (t < length jobs) × (job_fault rows jobs t ≡ Some fault)
    × ((u : ℕ) → u < t → job_fault rows jobs u ≡ None)
IsFirstFault rows jobs Memory = ⊤
