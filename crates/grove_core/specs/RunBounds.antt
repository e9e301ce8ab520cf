-- For the proofs alone: how many events a run may have.
use Rattle.std.specs.Prelude.{ℕ, ◌+◌, List, length, slice_get}
use Rattle.grove_base.specs.Numbers.{count_below, sum_below}
use Rattle.grove_plan.specs.declared.step.Step.{Step}
use Rattle.grove_plan.specs.Plans.{is_lock}
use Rattle.grove_core.specs.declared.job.Job.{Job}
use Rattle.grove_core.specs.Runs.{plan_of}

-- how many steps of a plan are locks
abbrev pub lock_steps : List Step → ℕ
lock_steps plan = count_below (length plan) (λ i. is_lock (slice_get plan i))

-- the steps and the lock steps of all plans together
abbrev pub most_events : List Job → ℕ
most_events jobs = sum_below (length jobs) (λ t. length (plan_of jobs t) + lock_steps (plan_of jobs t))
