-- What is refused may not happen, and each refusal has one reason.
use Rattle.std.proofs.Common.{◌≡◌, ℕ, ◌<◌, ◌≤◌, List, length, Some, None, refl, sym, ◌∙◌, ap, arith}
use Rattle.std.proofs.lemmas.Option.{none-some, same_Some}
use Rattle.std.proofs.lemmas.Bool.{cases_order, both_ways}
use Rattle.grove_tree.specs.Trees.{Rows}
use Rattle.grove_plan.specs.declared.step.Step.{Step}
use Rattle.grove_plan.specs.declared.step.Step.TheVariants.{Lock}
use Rattle.grove_plan.specs.declared.fault.PlanFault.{PlanFault}
use Rattle.grove_plan.proofs.Held.{lock_same}
use Rattle.grove_core.specs.declared.job.Job.{Job}
use Rattle.grove_core.specs.declared.event.Event.{Event}
use Rattle.grove_core.specs.declared.event.Event.TheVariants.{Take, Mark}
use Rattle.grove_core.specs.declared.fault.StepFault.TheVariants.{NoTxn, Ended, Blocked, NotBlocked, Marked}
use Rattle.grove_core.specs.declared.fault.OpenFault.TheVariants.{BadPlan, Memory}
use Rattle.grove_core.specs.Runs.{steps_done, next_step, is_marked, IsRun, IsFree, IsBlocked, job_of}
use Rattle.grove_core.specs.Openings.{job_fault}
use Rattle.grove_core.specs.FaultLaws.{RefusedMayNot, RefusedForOne, FirstFaultIsOne}
use Rattle.grove_core.proofs.Precedence.{within_jobs}
use Rattle.grove_core.proofs.MutualExclusion.{one_holder}

-- What a job stands before

take_no_mark : (t u : ℕ) → Take t ≡ Mark u → ⊥
take_no_mark t u h = absurd (cc)

-- a job with a next step is there
there : (jobs : List Job) (past : List Event) (t : ℕ) (s : Step) → next_step jobs past t ≡ Some s → length jobs ≤ t → ⊥
there jobs past t s next none = let lt : t < length jobs = within_jobs jobs t (steps_done past t) s next in absurd (omega arith)

-- and isn't at its end
goes_on : (jobs : List Job) (past : List Event) (t : ℕ) (s : Step) → next_step jobs past t ≡ Some s → next_step jobs past t ≡ None → ⊥
goes_on jobs past t s next ended = none-some s (sym ended ∙ next)

-- a node that another job holds isn't free
blocked_not_free : (jobs : List Job) (past : List Event) (t holder : ℕ) (s : Step) → IsBlocked jobs past t holder → next_step jobs past t ≡ Some s
    → ((node : ℕ) → s ≡ Lock node → IsFree jobs past t node) → ⊥
blocked_not_free jobs past t holder s blocked next free = grind (arith, both_ways, same_Some)

-- the job that holds the node is one
blocked_by_one : (jobs : List Job) (past : List Event) → IsRun jobs past → (t one other : ℕ) → IsBlocked jobs past t one → IsBlocked jobs past t other → one ≡ other
blocked_by_one jobs past run t one other a b = grind (arith, lock_same, one_holder, same_Some)

-- What is refused may not happen

-- an event that is refused may not happen
pub refused_may_not : RefusedMayNot
refused_may_not jobs past (Take t) NoTxn is may = there jobs past t may.0 may.1 is
refused_may_not jobs past (Take t) Ended is may = goes_on jobs past t may.0 may.1 is.1
refused_may_not jobs past (Take t) (Blocked holder) is may = blocked_not_free jobs past t holder may.0 is.1 may.1 may.2
refused_may_not jobs past (Take t) NotBlocked is may = take_no_mark t t is.0
refused_may_not jobs past (Take t) Marked is may = take_no_mark t t is.0
refused_may_not jobs past (Mark t) NoTxn is may = there jobs past t (Lock may.0) may.1 is
refused_may_not jobs past (Mark t) Ended is may = goes_on jobs past t (Lock may.0) may.1 is.1
refused_may_not jobs past (Mark t) (Blocked holder) is may = take_no_mark t t (sym is.0)
refused_may_not jobs past (Mark t) NotBlocked is may = blocked_not_free jobs past t may.2.0 is.1.0 (may.0, may.1, may.2.1) is.1.1 is.1.2
refused_may_not jobs past (Mark t) Marked is may = both_ways (is_marked past t) may.3 is.2

-- Each refusal has one reason

next_of : (jobs : List Job) (past : List Event) (t holder : ℕ) → IsBlocked jobs past t holder → (s : Step) × (next_step jobs past t ≡ Some s)
next_of jobs past t holder blocked = (Lock blocked.0, blocked.1)

-- a fault of a job that stands before a step
abbrev HasNext : List Job → List Event → Event → Type 0
HasNext jobs past event = (s : Step) × (next_step jobs past (job_of event) ≡ Some s)

no_txn_alone : (jobs : List Job) (past : List Event) (event : Event) → length jobs ≤ job_of event → HasNext jobs past event → ⊥
no_txn_alone jobs past event none next = there jobs past (job_of event) next.0 next.1 none

ended_alone : (jobs : List Job) (past : List Event) (event : Event) → next_step jobs past (job_of event) ≡ None → HasNext jobs past event → ⊥
ended_alone jobs past event ended next = goes_on jobs past (job_of event) next.0 next.1 ended

apart : (event : Event) → event ≡ Take (job_of event) → event ≡ Mark (job_of event) → ⊥
apart event take mark = take_no_mark (job_of event) (job_of event) (sym take ∙ mark)

-- and it is refused for one reason
pub refused_for_one : RefusedForOne
refused_for_one jobs past run event NoTxn NoTxn a b = refl
refused_for_one jobs past run event NoTxn Ended a b = let lt : job_of event < length jobs = b.0 in absurd (omega arith)
refused_for_one jobs past run event NoTxn (Blocked h) a b = absurd (no_txn_alone jobs past event a (next_of jobs past (job_of event) h b.1))
refused_for_one jobs past run event NoTxn NotBlocked a b = absurd (no_txn_alone jobs past event a (b.1.0, b.1.1))
refused_for_one jobs past run event NoTxn Marked a b = absurd (no_txn_alone jobs past event a (next_of jobs past (job_of event) b.1.0 b.1.1))
refused_for_one jobs past run event Ended NoTxn a b = let lt : job_of event < length jobs = a.0 in absurd (omega arith)
refused_for_one jobs past run event Ended Ended a b = refl
refused_for_one jobs past run event Ended (Blocked h) a b = absurd (ended_alone jobs past event a.1 (next_of jobs past (job_of event) h b.1))
refused_for_one jobs past run event Ended NotBlocked a b = absurd (ended_alone jobs past event a.1 (b.1.0, b.1.1))
refused_for_one jobs past run event Ended Marked a b = absurd (ended_alone jobs past event a.1 (next_of jobs past (job_of event) b.1.0 b.1.1))
refused_for_one jobs past run event (Blocked h) NoTxn a b = absurd (no_txn_alone jobs past event b (next_of jobs past (job_of event) h a.1))
refused_for_one jobs past run event (Blocked h) Ended a b = absurd (ended_alone jobs past event b.1 (next_of jobs past (job_of event) h a.1))
refused_for_one jobs past run event (Blocked h) (Blocked k) a b = ap Blocked (blocked_by_one jobs past run (job_of event) h k a.1 b.1)
refused_for_one jobs past run event (Blocked h) NotBlocked a b = absurd (apart event a.0 b.0)
refused_for_one jobs past run event (Blocked h) Marked a b = absurd (apart event a.0 b.0)
refused_for_one jobs past run event NotBlocked NoTxn a b = absurd (no_txn_alone jobs past event b (a.1.0, a.1.1))
refused_for_one jobs past run event NotBlocked Ended a b = absurd (ended_alone jobs past event b.1 (a.1.0, a.1.1))
refused_for_one jobs past run event NotBlocked (Blocked h) a b = absurd (apart event b.0 a.0)
refused_for_one jobs past run event NotBlocked NotBlocked a b = refl
refused_for_one jobs past run event NotBlocked Marked a b = absurd (blocked_not_free jobs past (job_of event) b.1.0 a.1.0 b.1.1 a.1.1 a.1.2)
refused_for_one jobs past run event Marked NoTxn a b = absurd (no_txn_alone jobs past event b (next_of jobs past (job_of event) a.1.0 a.1.1))
refused_for_one jobs past run event Marked Ended a b = absurd (ended_alone jobs past event b.1 (next_of jobs past (job_of event) a.1.0 a.1.1))
refused_for_one jobs past run event Marked (Blocked h) a b = absurd (apart event b.0 a.0)
refused_for_one jobs past run event Marked NotBlocked a b = absurd (blocked_not_free jobs past (job_of event) a.1.0 b.1.0 a.1.1 b.1.1 b.1.2)
refused_for_one jobs past run event Marked Marked a b = refl

-- The first fault of jobs is one

-- a job with a fault isn't before the first one
not_before : (rows : Rows) (jobs : List Job) (t u : ℕ) (fault : PlanFault) → t < u → job_fault rows jobs t ≡ Some fault → ((w : ℕ) → w < u → job_fault rows jobs w ≡ None) → ⊥
not_before rows jobs t u fault lt is none = none-some fault (sym (none t lt) ∙ is)

-- jobs have one first fault
pub first_fault_is_one : FirstFaultIsOne
first_fault_is_one rows jobs Memory other ne_one ne_other a b = absurd (ne_one refl)
first_fault_is_one rows jobs (BadPlan t f) Memory ne_one ne_other a b = absurd (ne_other refl)
first_fault_is_one rows jobs (BadPlan t f) (BadPlan u g) ne_one ne_other a b =
    grind (arith, cases_order, not_before, same_Some)
