-- What a core keeps: the state that its history leads to.
use Rattle.std.specs.Prelude.{ℤ, List, reverse}
use Rattle.grove_tree.specs.Trees.{Rows}
use Rattle.grove_core.specs.declared.job.Job.{Job}
use Rattle.grove_core.specs.declared.event.Event.{Event}

-- a core, as its callers see it: what it was opened with, and the events since then
pub record CoreState : Type 0 where
  pub tree : Rows
  pub jobs : List Job
  pub opening : List ℤ
  pub history : List Event

-- the events, from the latest back
abbrev pub past_of : CoreState → List Event
past_of core = reverse core.history
