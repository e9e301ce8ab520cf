-- Runs of jobs over their plans, as histories of events.
use Rattle.std.specs.Prelude.{◌≡◌, ◌≢◌, ℕ, zero, suc, ◌+◌, ◌<◌, ◌≤◌, ◌==◌, ℤ, Bool, true, false, ⊤, List, [], ◌∷◌, ◌++◌}
use Rattle.std.specs.Prelude.{length, map, slice_get, Option, Some, None, if◌then◌else◌}
use Rattle.grove_base.specs.Numbers.{numbers_below}
use Rattle.grove_tree.specs.Trees.{Rows}
use Rattle.grove_access.specs.declared.access.Access.{Access}
use Rattle.grove_access.specs.declared.reply.Reply.{Reply}
use Rattle.grove_access.specs.Lists.{nodes_of}
use Rattle.grove_plan.specs.declared.step.Step.{Step}
use Rattle.grove_plan.specs.declared.step.Step.TheVariants.{Lock}
use Rattle.grove_plan.specs.declared.step.Step.TheVariants as plan_step
use Rattle.grove_plan.specs.Plans.{locks, held, IsLegal}
use Rattle.grove_core.specs.declared.job.Job.{Job}
use Rattle.grove_core.specs.declared.event.Event.{Event}
use Rattle.grove_core.specs.declared.event.Event.TheVariants.{Take, Mark}
use Rattle.grove_core.specs.declared.fault.StepFault.{StepFault}
use Rattle.grove_core.specs.declared.fault.StepFault.TheVariants.{NoTxn, Ended, Blocked, NotBlocked, Marked}
use Rattle.grove_core.specs.Serial.{Deed, deeds_records, deeds_replies}

abbrev pub list_of : List Job → ℕ → List Access
list_of [] t = []
list_of (job ∷ jobs) zero = job.list
list_of (job ∷ jobs) (suc t) = list_of jobs t

abbrev pub plan_of : List Job → ℕ → List Step
plan_of [] t = []
plan_of (job ∷ jobs) zero = job.plan
plan_of (job ∷ jobs) (suc t) = plan_of jobs t

abbrev pub AllLegal : Rows → List Job → Type 0
AllLegal rows jobs = (t : ℕ) → t < length jobs → IsLegal rows (nodes_of (list_of jobs t)) (plan_of jobs t)

-- From here on a history is read back from its latest event: the past.

-- how many steps a job has done
abbrev pub steps_done : List Event → ℕ → ℕ
steps_done [] t = 0
steps_done (Take u ∷ past) t = if u == t then suc (steps_done past t) else steps_done past t
steps_done (Mark u ∷ past) t = steps_done past t

abbrev pub next_step : List Job → List Event → ℕ → Option Step
next_step jobs past t = slice_get (plan_of jobs t) (steps_done past t)

abbrev pub holds : List Job → List Event → ℕ → ℕ → Bool
holds jobs past t node = held (plan_of jobs t) node (steps_done past t)

-- the step that a job stands before has a mark
abbrev pub is_marked : List Event → ℕ → Bool
is_marked [] t = false
is_marked (Take u ∷ past) t = if u == t then false else is_marked past t
is_marked (Mark u ∷ past) t = if u == t then true else is_marked past t

-- no other job holds a node
abbrev pub IsFree : List Job → List Event → ℕ → ℕ → Type 0
IsFree jobs past t node = (u : ℕ) → u ≢ t → holds jobs past u node ≡ false

-- this other job holds a node
abbrev pub IsHeldBy : List Job → List Event → ℕ → ℕ → ℕ → Type 0
IsHeldBy jobs past t node u = (u ≢ t) × (holds jobs past u node ≡ true)

abbrev pub MayHappen : List Job → List Event → Event → Type 0
MayHappen jobs past (Take t) = (step : Step) × (next_step jobs past t ≡ Some step)
    × ((node : ℕ) → step ≡ Lock node → IsFree jobs past t node)
MayHappen jobs past (Mark t) = (node : ℕ) × (next_step jobs past t ≡ Some (Lock node))
    × ((u : ℕ) × IsHeldBy jobs past t node u) × (is_marked past t ≡ false)

abbrev pub IsRun : List Job → List Event → Type 0
IsRun jobs [] = ⊤
IsRun jobs (event ∷ past) = MayHappen jobs past event × IsRun jobs past

abbrev pub IsFinished : List Job → List Event → Type 0
IsFinished jobs past = (t : ℕ) → t < length jobs → steps_done past t ≡ length (plan_of jobs t)

-- The first reason why an event may not happen.

abbrev pub job_of : Event → ℕ
job_of (Take t) = t
job_of (Mark t) = t

-- the job's next step is a lock of a node that this other job holds
abbrev pub IsBlocked : List Job → List Event → ℕ → ℕ → Type 0
IsBlocked jobs past t holder = (node : ℕ) × (next_step jobs past t ≡ Some (Lock node))
    × IsHeldBy jobs past t node holder

abbrev pub IsRefused : List Job → List Event → Event → StepFault → Type 0
IsRefused jobs past event NoTxn = length jobs ≤ job_of event
IsRefused jobs past event Ended = (job_of event < length jobs) × (next_step jobs past (job_of event) ≡ None)
IsRefused jobs past event (Blocked holder) = (event ≡ Take (job_of event)) × IsBlocked jobs past (job_of event) holder
IsRefused jobs past event NotBlocked = (event ≡ Mark (job_of event))
    × ((step : Step) × (next_step jobs past (job_of event) ≡ Some step)
    × ((node : ℕ) → step ≡ Lock node → IsFree jobs past (job_of event) node))
IsRefused jobs past event Marked = (event ≡ Mark (job_of event))
    × ((holder : ℕ) × IsBlocked jobs past (job_of event) holder) × (is_marked past (job_of event) ≡ true)

-- What a run did.

-- a job's access, where its list has it
abbrev pub deed_at : ℕ → Option Access → List Deed
deed_at t None = []
deed_at t (Some access) = record { job = t; access = access } ∷ []

-- the access that a step does
abbrev pub deed_of : ℕ → List Access → Option Step → List Deed
deed_of t list (Some (plan_step.Access i)) = deed_at t (slice_get list i)
deed_of t list _ = []

-- the accesses done, the earliest first
abbrev pub deeds : List Job → List Event → List Deed
deeds jobs [] = []
deeds jobs (Take t ∷ past) = deeds jobs past ++ deed_of t (list_of jobs t) (next_step jobs past t)
deeds jobs (Mark t ∷ past) = deeds jobs past

abbrev pub run_records : List Job → List ℤ → List Event → List ℤ
run_records jobs opening past = deeds_records (deeds jobs past) opening

abbrev pub run_replies : List Job → List ℤ → List Event → ℕ → List Reply
run_replies jobs opening past t = deeds_replies (deeds jobs past) opening t

-- the replies of each job
abbrev pub replies_of : List Job → List ℤ → List Event → List (List Reply)
replies_of jobs opening past = map (run_replies jobs opening past) (numbers_below (length jobs))

-- the marks made while the next step was a lock of the node
abbrev pub waits_of : List Job → List Event → ℕ → ℕ
waits_of jobs [] node = 0
waits_of jobs (Take u ∷ past) node = waits_of jobs past node
waits_of jobs (Mark u ∷ past) node = (if locks node (next_step jobs past u) then 1 else 0) + waits_of jobs past node
