-- For the proofs alone: what a core keeps of its history, job by job and node by node.
use Rattle.std.specs.Prelude.{◌≡◌, ◌≢◌, ℕ, ◌+◌, ◌^◌, ◌<◌, ◌≤◌, ◌==◌, ℤ, Bool, true, false, ⊤, List, [], ◌∷◌, length}
use Rattle.std.specs.Prelude.{◌++◌, slice_get, Option, Some, None, MatchOption, if◌then◌else◌, Result, OnOk, OnErr, IfErr}
use Rattle.smallvec.specs.SmallVec.{SmallVec}
use Rattle.grove_base.specs.Numbers.{count_below}
use Rattle.grove_tree.specs.Trees.{Rows, IsTree}
use Rattle.grove_access.specs.declared.reply.Reply.{Reply}
use Rattle.grove_core.specs.declared.job.Job.{Job}
use Rattle.grove_core.specs.declared.event.Event.{Event}
use Rattle.grove_core.specs.declared.fault.StepFault.{StepFault}
use Rattle.grove_core.specs.declared.locking.Locked.{Locked}
use Rattle.grove_core.specs.declared.progress.Progress.{Progress}
use Rattle.grove_plan.specs.Plans.{is_lock}
use Rattle.grove_core.specs.Runs.{list_of, plan_of, steps_done, holds, is_marked, AllLegal, IsRun, run_records}
use Rattle.grove_core.specs.Runs.{run_replies, waits_of, MayHappen, IsRefused}
use Rattle.grove_core.specs.RunBounds.{lock_steps, most_events}
use Rattle.grove_core.specs.Kept.{CoreState, past_of}
use Rattle.grove_core.specs.Orders.{first_lock, lock_time, earlier}
use Rattle.grove_core.specs.declared.owner.Owner.{Owner}
use Rattle.grove_core.specs.Owners.{holder_of, last_holder_of}

-- when a node was locked, by the locks of a job
abbrev pub time_in : List Locked → ℕ → Option ℕ
time_in [] node = None
time_in (lock ∷ locked) node = if lock.node == node then Some lock.time else time_in locked node

-- a job's locks before and after one more, which is kept where it is given
pub record KeepsLock (old new : SmallVec Locked) (kept : Option Locked) : Type 0 where
  pub locked : MatchOption kept (new ≡ old) (λ lock. new.items ≡ old.items ++ lock ∷ [])
  pub room : new.capacity ≡ old.capacity

-- what a lock makes of a job's progress, which is kept where it is given
pub record IsLocked (kept : Option Locked) (old new : Progress) : Type 0 where
  pub at : new.steps_done ≡ old.steps_done + 1
  pub marks : new.marked ≡ false
  pub replies : new.replies ≡ old.replies
  pub locked : KeepsLock old.locked new.locked kept
  pub held : new.held_nodes ≡ old.held_nodes + 1

-- and an unlock
pub record IsUnlocked (old new : Progress) : Type 0 where
  pub at : new.steps_done ≡ old.steps_done + 1
  pub marks : new.marked ≡ false
  pub replies : new.replies ≡ old.replies
  pub locked : new.locked ≡ old.locked
  pub held : new.held_nodes + 1 ≡ old.held_nodes

-- and an access with this reply
pub record IsAnswered (reply : Reply) (old new : Progress) : Type 0 where
  pub at : new.steps_done ≡ old.steps_done + 1
  pub marks : new.marked ≡ false
  pub replies : new.replies.items ≡ old.replies.items ++ reply ∷ []
  pub room : new.replies.capacity ≡ old.replies.capacity
  pub locked : new.locked ≡ old.locked
  pub held : new.held_nodes ≡ old.held_nodes

-- and a mark
pub record IsMarked (old new : Progress) : Type 0 where
  pub at : new.steps_done ≡ old.steps_done
  pub marks : new.marked ≡ true
  pub replies : new.replies ≡ old.replies
  pub locked : new.locked ≡ old.locked
  pub held : new.held_nodes ≡ old.held_nodes

-- some job locks the node first
abbrev pub IsFirst : List Job → ℕ → Type 0
IsFirst jobs node = (t : ℕ) × (first_lock (plan_of jobs t) ≡ Some node)

-- each node that some job locks first is told
pub record TellsFirsts (nodes : ℕ) (jobs : List Job) (firsts : List Bool) : Type 0 where
  pub all_nodes : length firsts ≡ nodes
  pub told : (node : ℕ) → IsFirst jobs node → slice_get firsts node ≡ Some true

-- a run so far: jobs over a tree and its records, and what has happened to them, from the latest event back
pub record Run : Type 0 where
  pub tree : Rows
  pub jobs : List Job
  pub opening : List ℤ
  pub past : List Event

abbrev pub run_of : CoreState → Run
run_of core = record { tree = core.tree; jobs = core.jobs; opening = core.opening; past = past_of core }

-- the run with an event more
abbrev pub after : Run → Event → Run
after run event = record run { past = event ∷ run.past }

-- how far a job has come; the times are those of nodes that some job locks first
pub record HasProgress (run : Run) (t : ℕ) (progress : Progress) : Type 0 where
  pub at : progress.steps_done ≡ steps_done run.past t
  pub marks : progress.marked ≡ is_marked run.past t
  pub answers : progress.replies.items ≡ run_replies run.jobs run.opening run.past t
  pub room : length (list_of run.jobs t) ≤ progress.replies.capacity
  pub spare : lock_steps (plan_of run.jobs t) ≤ progress.locked.capacity
  pub locks : length progress.locked.items ≤ count_below (steps_done run.past t)
      (λ i. is_lock (slice_get (plan_of run.jobs t) i))
  pub times : (node : ℕ) → IsFirst run.jobs node → time_in progress.locked.items node
      ≡ lock_time run.jobs run.past t node
  pub holding : progress.held_nodes ≡ count_below (length run.tree) (λ node. holds run.jobs run.past t node)
  pub held : progress.held_nodes ≤ steps_done run.past t

-- who holds a node
abbrev pub Owns : List Job → List Event → ℕ → Option ℕ → Type 0
Owns jobs past node None = (t : ℕ) → holds jobs past t node ≡ false
Owns jobs past node (Some t) = (holds jobs past t node ≡ true) × ((u : ℕ) → u ≢ t → holds jobs past u node ≡ false)

-- no job locked a node after this one
abbrev pub IsLastAt : List Job → List Event → ℕ → Option ℕ → Type 0
IsLastAt jobs past node None = ⊤
IsLastAt jobs past node (Some t) = (u : ℕ) → earlier (lock_time jobs past t node) (lock_time jobs past u node) ≡ false

-- what is known of a node by its owner
abbrev pub IsOwned : List Job → List Event → ℕ → Owner → Type 0
IsOwned jobs past node owner = Owns jobs past node (holder_of owner) × IsLastAt jobs past node (last_holder_of owner)

-- what a core keeps of its run, job by job and node by node, and for how many events it has room
pub record Tables : Type 0 where
  pub room : ℕ
  pub records : List ℤ
  pub progress : List Progress
  pub owners : List Owner
  pub waits : List ℕ
  pub firsts : List Bool

pub record IsCore (run : Run) (kept : Tables) : Type 0 where
  pub tree : IsTree run.tree
  pub few : length run.jobs ≤ 256
  pub legal : AllLegal run.tree run.jobs
  pub short : (t : ℕ) → t < length run.jobs → length (plan_of run.jobs t) < 2 ^ 32
  pub opened : length run.opening ≡ length run.tree
  pub is_run : IsRun run.jobs run.past
  pub room : most_events run.jobs ≤ kept.room
  pub recorded : kept.records ≡ run_records run.jobs run.opening run.past
  pub all_jobs : length kept.progress ≡ length run.jobs
  pub come : (t : ℕ) (p : Progress) → slice_get kept.progress t ≡ Some p → HasProgress run t p
  pub all_owners : length kept.owners ≡ length run.tree
  pub owned : (node : ℕ) (owner : Owner) → slice_get kept.owners node ≡ Some owner → IsOwned run.jobs run.past node owner
  pub all_waits : length kept.waits ≡ length run.tree
  pub waited : (node count : ℕ) → slice_get kept.waits node ≡ Some count → count ≡ waits_of run.jobs run.past node
  pub firsts : TellsFirsts (length run.tree) run.jobs kept.firsts

-- an event that is tried: it happens where it may, and else it is refused for its first reason, and nothing changes
pub record IsTried (event : Event) (old new : CoreState) (result : Result (Unit {0}) StepFault) : Type 0 where
  pub accepted : OnOk result (MayHappen old.jobs (past_of old) event)
  pub added : OnOk result (new ≡ record old { history = old.history ++ event ∷ [] })
  pub refused : IfErr result (λ fault. IsRefused old.jobs (past_of old) event fault)
  pub unchanged : OnErr result (new ≡ old)
