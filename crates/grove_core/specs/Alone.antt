-- The run that does each job alone: all steps of job 0, then all steps of job 1, and so on.
use Rattle.std.specs.Prelude.{◌≡◌, ℕ, zero, suc, ◌&&◌, nat_lt, ℤ, Bool, false, List, [], ◌∷◌, ◌++◌, length, slice_get}
use Rattle.std.specs.Prelude.{Option, Some, None}
use Rattle.grove_base.specs.Numbers.{any_below, numbers_below}
use Rattle.grove_tree.specs.Trees.{Rows}
use Rattle.grove_access.specs.declared.access.Access.{Access}
use Rattle.grove_plan.specs.declared.step.Step.{Step}
use Rattle.grove_plan.specs.Plans.{locks}
use Rattle.grove_core.specs.declared.job.Job.{Job}
use Rattle.grove_core.specs.declared.event.Event.{Event}
use Rattle.grove_core.specs.declared.event.Event.TheVariants.{Take}
use Rattle.grove_core.specs.Serial.{serial_records, serial_replies}
use Rattle.grove_core.specs.Runs.{list_of, plan_of, AllLegal, IsRun, IsFinished, run_records, run_replies, waits_of}
use Rattle.grove_core.specs.Orders.{first_lock, locked_after, order_by, placement_order}

-- the past after n more steps of a job
abbrev pub steps_more : ℕ → ℕ → List Event → List Event
steps_more t zero past = past
steps_more t (suc n) past = Take t ∷ steps_more t n past

-- the past of the jobs below a number done whole, each alone
abbrev pub alone_below : List Job → ℕ → List Event
alone_below jobs zero = []
alone_below jobs (suc k) = steps_more k (length (plan_of jobs k)) (alone_below jobs k)

-- the past of all jobs done whole, each alone
abbrev pub alone : List Job → List Event
alone jobs = alone_below jobs (length jobs)

-- some step of a plan locks the node
abbrev pub locks_some : List Step → Option ℕ → Bool
locks_some plan None = false
locks_some plan (Some node) = any_below (length plan) (λ i. locks node (slice_get plan i))

-- job u has a greater number than job t and locks the first node of it
abbrev pub comes_after : List Job → ℕ → ℕ → Bool
comes_after jobs t u = nat_lt t u && locks_some (plan_of jobs u) (first_lock (plan_of jobs t))

-- what the run that does each job alone comes to
pub record IsDoneAlone (rows : Rows) (jobs : List Job) : Type 0 where
  pub is_run : IsRun jobs (alone jobs)
  pub is_finished : IsFinished jobs (alone jobs)
  pub records : (opening : List ℤ)
      → run_records jobs opening (alone jobs) ≡ serial_records (list_of jobs) (numbers_below (length jobs)) opening
  pub replies : (opening : List ℤ) (t : ℕ)
      → run_replies jobs opening (alone jobs) t ≡ serial_replies (list_of jobs) (numbers_below (length jobs)) opening t
  pub waits : (node : ℕ) → waits_of jobs (alone jobs) node ≡ 0
  pub after : (t u : ℕ) → locked_after jobs (alone jobs) t u ≡ comes_after jobs t u
  pub order : placement_order rows jobs (alone jobs) ≡ order_by rows jobs (comes_after jobs)

abbrev pub JobsAlone : Type 0
JobsAlone = (rows : Rows) (jobs : List Job) → AllLegal rows jobs → IsDoneAlone rows jobs

-- the accesses of the lists below a number, one list after the other
abbrev pub accesses_below : (ℕ → List Access) → ℕ → List Access
accesses_below lists zero = []
accesses_below lists (suc k) = accesses_below lists k ++ lists k
