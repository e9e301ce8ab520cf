-- Batches of jobs, brought to a finished run.
use Rattle.std.specs.Prelude.{◌≡◌, ℕ, ◌==◌, ℤ, ⊤, List, map}
use Rattle.std.specs.List.{position_or_len}
use Rattle.grove_base.specs.Numbers.{numbers_below}
use Rattle.grove_tree.specs.Trees.{Rows}
use Rattle.grove_core.specs.declared.job.Job.{Job}
use Rattle.grove_core.specs.declared.fault.OpenFault.TheVariants.{BadPlan as BadOpen}
use Rattle.grove_core.specs.Openings.{IsFirstFault}
use Rattle.grove_core.specs.Runs.{AllLegal}
use Rattle.grove_core.specs.Kept.{CoreState}
use Rattle.grove_core.specs.declared.run_fault.RunFault.{RunFault}
use Rattle.grove_core.specs.declared.run_fault.RunFault.TheVariants.{BadPlan, Memory, Foreign, Unfinished}

-- what can come once no plan is bad
abbrev pub IsLegalRunFault : RunFault → Type 0
IsLegalRunFault (BadPlan t fault) = ⊥
IsLegalRunFault _ = ⊤

-- a bad plan is the first fault of the jobs, and only where none is bad the workers can fail
abbrev pub IsRunFault : Rows → List Job → RunFault → Type 0
IsRunFault rows jobs (BadPlan t fault) = IsFirstFault rows jobs (BadOpen t fault)
IsRunFault rows jobs Memory = ⊤
IsRunFault rows jobs Foreign = AllLegal rows jobs
IsRunFault rows jobs Unfinished = AllLegal rows jobs

-- the core is one of these jobs over this tree and these records
pub record IsCoreOf (rows : Rows) (jobs : List Job) (opening : List ℤ) (core : CoreState) : Type 0 where
  pub tree : core.tree ≡ rows
  pub jobs_are : core.jobs ≡ jobs
  pub opened : core.opening ≡ opening

-- a finished run's core, with the order in which its jobs may be done whole
pub record FinishedState : Type 0 where
  pub core : CoreState
  pub order : List ℕ

-- the position of each of so many jobs in an order
abbrev pub places_of : List ℕ → ℕ → List ℕ
places_of order jobs = map (λ job. position_or_len (λ other. other == job) order) (numbers_below jobs)
