-- What a step of a book comes to.
use Rattle.std.proofs.Common.{◌≡◌, ℕ, ◌+◌, ◌<◌, ◌≤◌, true, false, List, length, slice_get, Option, Some, None, Result, Ok, Err, OnOk, OnErr, IfErr, sym, ◌∙◌, ap, subst, arith}
use Rattle.std.proofs.lemmas.Option.{none-some, same_Some}
use Rattle.std.proofs.lemmas.Bool.{both_ways, cond-true, cond-false}
use Rattle.grove_tree.specs.Trees.{Rows}
use Rattle.grove_plan.specs.declared.step.Step.{Step}
use Rattle.grove_plan.specs.declared.step.Step.TheVariants.{Lock, Unlock, Access}
use Rattle.grove_plan.proofs.Held.{held_not}
use Rattle.grove_core.specs.declared.job.Job.{Job}
use Rattle.grove_core.specs.declared.event.Event.{Event}
use Rattle.grove_core.specs.declared.event.Event.TheVariants.{Take, Mark}
use Rattle.grove_core.specs.declared.fault.StepFault.{StepFault}
use Rattle.grove_core.specs.declared.fault.StepFault.TheVariants.{NoTxn, Ended, Blocked, NotBlocked, Marked}
use Rattle.grove_core.specs.Runs.{plan_of, steps_done, next_step, holds, is_marked, AllLegal, MayHappen, IsRefused}
use Rattle.grove_core.specs.Kept.{CoreState, past_of}
use Rattle.grove_core.specs.Carried.{IsOf}
use Rattle.grove_access.specs.Carries.{Carried, known_at, carry_settled}
use Rattle.grove_access.proofs.CarriedNodes.{length-settled}
use Rattle.grove_core.proofs.Precedence.{within_jobs}
use Rattle.grove_run.specs.Books.{after_event, marked, step_after, HasNoStep, IsBlockedAt}
use Rattle.grove_base.proofs.Lists.{none_there}

-- a job doesn't hold the node that it is to lock, and holds the one that it is to unlock
pub free_before : (rows : Rows) (jobs : List Job) (past : List Event) (t v : ℕ) → AllLegal rows jobs → next_step jobs past t ≡ Some (Lock v) → holds jobs past t v ≡ false
free_before rows jobs past t v legal next = grind (arith, held_not, within_jobs)

-- the node of a lock is one of the tree
pub lock_within : (rows : Rows) (jobs : List Job) (past : List Event) (t v : ℕ) → AllLegal rows jobs → next_step jobs past t ≡ Some (Lock v) → v < length rows
lock_within rows jobs past t v legal next = (legal t (within_jobs jobs t (steps_done past t) (Lock v) next)).obeys.locks_nodes (steps_done past t) v next

no_take : (t u : ℕ) → Mark t ≡ Take u → ⊥
no_take t u e = absurd (cc)

-- a job whose lock can't be done is blocked at it
pub blocked_at : (core : CoreState) (t v : ℕ) (fault : StepFault) → next_step core.jobs (past_of core) t ≡ Some (Lock v) → IsRefused core.jobs (past_of core) (Take t) fault → IsBlockedAt core t
blocked_at core t v NoTxn next refused =
    let lt : t < length core.jobs = within_jobs core.jobs t (steps_done (past_of core) t) (Lock v) next in let le : length core.jobs ≤ t = refused in absurd (omega arith)
blocked_at core t v Ended next refused = absurd (none-some (Lock v) (sym refused.1 ∙ next))
blocked_at core t v (Blocked holder) next refused = (holder, refused.1)
blocked_at core t v NotBlocked next refused = absurd (no_take t t (sym refused.0))
blocked_at core t v Marked next refused = absurd (no_take t t (sym refused.0))

-- a mark that is refused was there
mark_refused : (core : CoreState) (t : ℕ) (fault : StepFault) → IsBlockedAt core t → IsRefused core.jobs (past_of core) (Mark t) fault → is_marked (past_of core) t ≡ true
mark_refused core t NoTxn blocked refused =
    let lt : t < length core.jobs = within_jobs core.jobs t (steps_done (past_of core) t) (Lock blocked.1.0) blocked.1.1 in let le : length core.jobs ≤ t = refused in absurd (omega arith)
mark_refused core t Ended blocked refused = absurd (none-some (Lock blocked.1.0) (sym refused.1 ∙ blocked.1.1))
mark_refused core t (Blocked holder) blocked refused = absurd (no_take t t refused.0)
mark_refused core t NotBlocked blocked refused = grind (arith, both_ways, same_Some)
mark_refused core t Marked blocked refused = refused.2

-- what marking comes to
pub mark_done : (old new : CoreState) (t : ℕ) (r : Result (Unit {0}) StepFault) → IsBlockedAt old t → OnOk r (MayHappen old.jobs (past_of old) (Mark t)) → OnOk r (new ≡ after_event old (Mark t))
    → IfErr r (λ fault. IsRefused old.jobs (past_of old) (Mark t) fault) → OnErr r (new ≡ old) → new ≡ marked old t
mark_done old new t (Ok u) blocked may added refused unchanged =
    added ∙ sym (cond-false (is_marked (past_of old) t) old (after_event old (Mark t)) may.3)
mark_done old new t (Err fault) blocked may added refused unchanged =
    unchanged ∙ sym (cond-true (is_marked (past_of old) t) old (after_event old (Mark t)) (mark_refused old t fault blocked refused))

-- a carry that is settled has room where it had room
pub no_step_settled : (carry : Carried) (step : Option Step) → HasNoStep (carry_settled carry) step → HasNoStep carry step
no_step_settled carry None h = h
no_step_settled carry (Some (Lock v)) h = sym (length-settled carry.entries carry.known) ∙ h
no_step_settled carry (Some (Unlock v)) h = h
no_step_settled carry (Some (Access i)) h = h

-- the node that a job is to lock isn't out
pub lock_not_out : (core : CoreState) (carry : Carried) (v : ℕ) → AllLegal core.tree core.jobs → IsOf core carry → next_step core.jobs (past_of core) carry.txn ≡ Some (Lock v) → known_at carry.known v ≡ None
lock_not_out core carry v legal of next =
    none_there (known_at carry.known v)
    (of.out v ∙ free_before core.tree core.jobs (past_of core) carry.txn v legal next)

-- the step after the entries, as it is read
pub step_read : (core : CoreState) (carry : Carried) (t n : ℕ) (found : Option Step) → t ≡ carry.txn → n ≡ length carry.entries
    → found ≡ slice_get (plan_of core.jobs t) (steps_done (past_of core) t + n) → found ≡ step_after core carry
step_read core carry t n found e f is =
    is ∙ ap (λ (k : ℕ). slice_get (plan_of core.jobs k) (steps_done (past_of core) k + n)) e ∙ ap (λ (k : ℕ). slice_get (plan_of core.jobs carry.txn) (steps_done (past_of core) carry.txn + k)) f

-- a step of a carry that isn't foreign has room
pub has_room : (core : CoreState) (carry settled : Carried) (step : Step) → settled ≡ carry_settled carry → Some step ≡ step_after core carry → (HasNoStep carry (step_after core carry) → ⊥)
    → HasNoStep settled (Some step) → ⊥
has_room core carry settled step is found fits no_room =
    fits (subst (λ (o : Option Step). HasNoStep carry o) found (no_step_settled carry (Some step) (subst (λ (k : Carried). HasNoStep k (Some step)) is no_room)))
