-- What one more event makes of a run: lock times, records and replies.
use Rattle.std.proofs.Common.{◌≡◌, ◌≢◌, ℕ, zero, suc, ℤ, false, eqb, List, [], ◌∷◌, ◌++◌, length, Option, Some, None}
use Rattle.std.proofs.Common.{refl, ◌∙◌, ap, arith}
use Rattle.std.specs.List.{slice_get}
use Rattle.std.proofs.lemmas.List.{append-nil, length-set}
use Rattle.std.proofs.lemmas.Option.{none-some, same_Some}
use Rattle.std.proofs.lemmas.Bool.{eq-eqb, ne_eqb, cond-true, cond-false, and_from, and_left, and_right}
use Rattle.grove_access.specs.declared.access.Access.{Access}
use Rattle.grove_access.specs.Effects.{changed_by, reply_to}
use Rattle.grove_plan.specs.declared.step.Step.{Step}
use Rattle.grove_plan.specs.declared.step.Step.TheVariants.{Lock, Unlock}
use Rattle.grove_plan.specs.declared.step.Step.TheVariants as plan_step
use Rattle.grove_plan.specs.Plans.{locks}
use Rattle.grove_plan.proofs.Held.{locks_from}
use Rattle.grove_core.specs.declared.job.Job.{Job}
use Rattle.grove_core.specs.declared.event.Event.{Event}
use Rattle.grove_core.specs.declared.event.Event.TheVariants.{Take}
use Rattle.grove_core.specs.Serial.{Deed, deeds_records, deeds_replies}
use Rattle.grove_core.specs.Runs.{list_of, plan_of, next_step, deed_at, deed_of, deeds, run_records, run_replies}
use Rattle.grove_core.specs.Orders.{lock_time}
use Rattle.grove_core.proofs.WholeLists.{deeds_records-append, deeds_replies-append}

-- a job's list and plan
pub list_of_at : (jobs : List Job) (t : ℕ) (job : Job) → slice_get jobs t ≡ Some job → list_of jobs t ≡ job.list
list_of_at [] t job h = absurd (none-some job h)
list_of_at (x ∷ jobs) zero job h = ap (λ (j : Job). j.list) (same_Some x job h)
list_of_at (x ∷ jobs) (suc t) job h = list_of_at jobs t job h

-- the plan of a job that is read is that of its number
pub plan_of_at : (jobs : List Job) (t : ℕ) (job : Job) → slice_get jobs t ≡ Some job → plan_of jobs t ≡ job.plan
plan_of_at [] t job h = absurd (none-some job h)
plan_of_at (x ∷ jobs) zero job h = ap (λ (j : Job). j.plan) (same_Some x job h)
plan_of_at (x ∷ jobs) (suc t) job h = plan_of_at jobs t job h

-- accesses leave as many records
pub deeds_length : (ds : List Deed) (records : List ℤ) → length (deeds_records ds records) ≡ length records
deeds_length [] records = refl
deeds_length (d ∷ ds) records = deeds_length ds (changed_by d.access records) ∙ length-set records d.access.node _

-- Lock times

-- a step that doesn't lock a node leaves its lock times
pub lock_time_kept : (jobs : List Job) (past : List Event) (u t node : ℕ) → locks node (next_step jobs past u) ≡ false → lock_time jobs (Take u ∷ past) t node ≡ lock_time jobs past t node
lock_time_kept jobs past u t node h = grind (arith, and_right, cond-false)

-- another job's step leaves a job's
pub lock_time_other : (jobs : List Job) (past : List Event) (u t node : ℕ) → u ≢ t → lock_time jobs (Take u ∷ past) t node ≡ lock_time jobs past t node
lock_time_other jobs past u t node ne = grind (arith, and_left, cond-false, ne_eqb)

-- a lock gets the time of its event
pub lock_time_new : (jobs : List Job) (past : List Event) (t node : ℕ) → next_step jobs past t ≡ Some (Lock node) → lock_time jobs (Take t ∷ past) t node ≡ Some (length past)
lock_time_new jobs past t node h = grind (arith, and_from, cond-true, eq-eqb, locks_from)

-- the lock of one node is none of another
pub locks_lock : (node v : ℕ) (o : Option Step) → o ≡ Some (Lock v) → v ≢ node → locks node o ≡ false
locks_lock node v o e ne = ap (locks node) e ∙ ne_eqb v node ne

-- Records and replies

-- a step that is no access leaves the records
pub idle_records : (jobs : List Job) (opening : List ℤ) (past : List Event) (u : ℕ) → deed_of u (list_of jobs u) (next_step jobs past u) ≡ []
    → run_records jobs opening (Take u ∷ past) ≡ run_records jobs opening past
idle_records jobs opening past u e = ap (λ (ds : List Deed). deeds_records (deeds jobs past ++ ds) opening) e ∙ ap (λ (ds : List Deed). deeds_records ds opening) (append-nil (deeds jobs past))

-- and the replies
pub idle_replies : (jobs : List Job) (opening : List ℤ) (past : List Event) (u t : ℕ) → deed_of u (list_of jobs u) (next_step jobs past u) ≡ []
    → run_replies jobs opening (Take u ∷ past) t ≡ run_replies jobs opening past t
idle_replies jobs opening past u t e = ap (λ (ds : List Deed). deeds_replies (deeds jobs past ++ ds) opening t) e ∙ ap (λ (ds : List Deed). deeds_replies ds opening t) (append-nil (deeds jobs past))

abbrev deed_by : ℕ → Access → Deed
deed_by t visit = record { job = t; access = visit }

accessed : (jobs : List Job) (past : List Event) (t n : ℕ) (visit : Access) → next_step jobs past t ≡ Some (plan_step.Access n) → slice_get (list_of jobs t) n ≡ Some visit
    → deed_of t (list_of jobs t) (next_step jobs past t) ≡ deed_by t visit ∷ []
accessed jobs past t n visit e f = ap (deed_of t (list_of jobs t)) e ∙ ap (deed_at t) f

-- an access changes the records
pub accessed_records : (jobs : List Job) (opening : List ℤ) (past : List Event) (t n : ℕ) (visit : Access) → next_step jobs past t ≡ Some (plan_step.Access n) → slice_get (list_of jobs t) n ≡ Some visit
    → run_records jobs opening (Take t ∷ past) ≡ changed_by visit (run_records jobs opening past)
accessed_records jobs opening past t n visit e f = grind (arith, accessed, deeds_records-append)

reply_shown : (t u : ℕ) (visit : Access) (records : List ℤ) → t ≡ u → deeds_replies (deed_by t visit ∷ []) records u ≡ reply_to visit records ∷ []
reply_shown t u visit records e = cond-true (eqb t u) (reply_to visit records ∷ []) [] (eq-eqb t u e)

reply_hidden : (t u : ℕ) (visit : Access) (records : List ℤ) → t ≢ u → deeds_replies (deed_by t visit ∷ []) records u ≡ []
reply_hidden t u visit records ne = cond-false (eqb t u) (reply_to visit records ∷ []) [] (ne_eqb t u ne)

-- and has a reply on them
pub accessed_replies : (jobs : List Job) (opening : List ℤ) (past : List Event) (t n : ℕ) (visit : Access) → next_step jobs past t ≡ Some (plan_step.Access n) → slice_get (list_of jobs t) n ≡ Some visit
    → run_replies jobs opening (Take t ∷ past) t ≡ run_replies jobs opening past t ++ reply_to visit (run_records jobs opening past) ∷ []
accessed_replies jobs opening past t n visit e f = grind (arith, accessed, deeds_replies-append, reply_shown)

-- another job's step adds no reply
hidden_at : (t u : ℕ) (o : Option Access) (records : List ℤ) → t ≢ u → deeds_replies (deed_at t o) records u ≡ []
hidden_at t u None records ne = refl
hidden_at t u (Some visit) records ne = reply_hidden t u visit records ne

hidden_of : (t u : ℕ) (list : List Access) (o : Option Step) (records : List ℤ) → t ≢ u → deeds_replies (deed_of t list o) records u ≡ []
hidden_of t u list None records ne = refl
hidden_of t u list (Some (Lock v)) records ne = refl
hidden_of t u list (Some (Unlock v)) records ne = refl
hidden_of t u list (Some (plan_step.Access n)) records ne = hidden_at t u (slice_get list n) records ne

-- another job's step leaves a job's replies
pub other_replies : (jobs : List Job) (opening : List ℤ) (past : List Event) (t u : ℕ) → t ≢ u → run_replies jobs opening (Take t ∷ past) u ≡ run_replies jobs opening past u
other_replies jobs opening past t u ne = grind (arith, append-nil, deeds_replies-append, hidden_of)
