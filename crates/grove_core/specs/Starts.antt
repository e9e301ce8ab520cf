-- For the proofs alone: what opens a core, job by job.
use Rattle.std.specs.Prelude.{◌≡◌, ℕ, ◌≤◌, false, ⊤, [], Option, Some}
use Rattle.grove_tree.specs.Trees.{Rows}
use Rattle.grove_access.specs.Lists.{nodes_of}
use Rattle.grove_plan.specs.declared.fault.PlanFault.{PlanFault}
use Rattle.grove_plan.specs.Faults.{plan_fault_of}
use Rattle.grove_core.specs.declared.job.Job.{Job}
use Rattle.grove_core.specs.declared.progress.Progress.{Progress}
use Rattle.grove_core.specs.declared.fault.OpenFault.{OpenFault}
use Rattle.grove_core.specs.declared.fault.OpenFault.TheVariants.{BadPlan, Memory}

-- the first fault of a job's plan
abbrev pub fault_of : Rows → Job → Option PlanFault
fault_of rows job = plan_fault_of rows (nodes_of job.list) job.plan

-- the fault of a job, or a refused growth
abbrev pub IsFaultOf : Option PlanFault → ℕ → OpenFault → Type 0
IsFaultOf found t (BadPlan u fault) = (u ≡ t) × (found ≡ Some fault)
IsFaultOf found t Memory = ⊤

-- a job that has done nothing, with room for its locks and its replies
pub record HasStarted (locks accesses : ℕ) (progress : Progress) : Type 0 where
  pub at : progress.steps_done ≡ 0
  pub unmarked : progress.marked ≡ false
  pub silent : progress.replies.items ≡ []
  pub room : accesses ≤ progress.replies.capacity
  pub unlocked : progress.locked.items ≡ []
  pub spare : locks ≤ progress.locked.capacity
  pub holding : progress.held_nodes ≡ 0
