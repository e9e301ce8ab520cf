-- A history that is replayed: the first reason why it is no finished run of the jobs.
use Rattle.std.specs.Prelude.{◌≡◌, ℕ, ◌<◌, ⊤, List, length, reverse, take, slice_get, Some}
use Rattle.grove_tree.specs.Trees.{Rows}
use Rattle.grove_core.specs.declared.job.Job.{Job}
use Rattle.grove_core.specs.declared.event.Event.{Event}
use Rattle.grove_core.specs.declared.fault.StepFault.{StepFault}
use Rattle.grove_core.specs.declared.fault.OpenFault.TheVariants as opening
use Rattle.grove_core.specs.declared.fault.ReplayFault.{ReplayFault}
use Rattle.grove_core.specs.declared.fault.ReplayFault.TheVariants.{BadPlan, BadEvent, Unfinished, Memory}
use Rattle.grove_core.specs.Runs.{plan_of, steps_done, AllLegal, IsRun, IsRefused}
use Rattle.grove_core.specs.Openings.{IsFirstFault}

-- the past after the first n events of a history
abbrev pub past_after : List Event → ℕ → List Event
past_after events n = reverse (take n events)

-- the first event that may not happen, and why: those before it are a run
pub record IsFirstRefused (jobs : List Job) (events : List Event) (at : ℕ) (fault : StepFault) : Type 0 where
  pub event : Event
  pub there : slice_get events at ≡ Some event
  pub before : IsRun jobs (past_after events at)
  pub refused : IsRefused jobs (past_after events at) event fault

-- the lowest job that isn't at the end of its plan
pub record IsFirstUnfinished (jobs : List Job) (past : List Event) (t : ℕ) : Type 0 where
  pub job : t < length jobs
  pub unfinished : steps_done past t < length (plan_of jobs t)
  pub first : (u : ℕ) → u < t → steps_done past u ≡ length (plan_of jobs u)

-- the first reason why the events are no finished run of the jobs
abbrev pub IsReplayFault : Rows → List Job → List Event → ReplayFault → Type 0
IsReplayFault rows jobs events (BadPlan t fault) = IsFirstFault rows jobs (opening.BadPlan t fault)
IsReplayFault rows jobs events (BadEvent at fault) = AllLegal rows jobs × IsFirstRefused jobs events at fault
IsReplayFault rows jobs events (Unfinished t) = AllLegal rows jobs × IsRun jobs (reverse events)
    × IsFirstUnfinished jobs (reverse events) t
IsReplayFault rows jobs events Memory = ⊤
