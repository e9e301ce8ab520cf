-- The jobs of lists that are planned.
use Rattle.std.specs.Prelude.{◌≡◌, ℕ, List, map, slice_get, Some}
use Rattle.grove_tree.specs.Trees.{Rows}
use Rattle.grove_access.specs.declared.access.Access.{Access}
use Rattle.grove_access.specs.Lists.{nodes_of, lengths_of}
use Rattle.grove_core.specs.declared.job.Job.{Job}
use Rattle.grove_build.specs.Settled.{IsSettled}

-- the lists with their settled plans
pub record AreSettledJobs (rows : Rows) (lists : List (List Access)) (jobs : List Job) : Type 0 where
  pub over : map (λ job. job.list) jobs ≡ lists
  pub settled : (t : ℕ) (job : Job) → slice_get jobs t ≡ Some job
      → IsSettled rows (nodes_of job.list) (lengths_of job.list) job.plan
