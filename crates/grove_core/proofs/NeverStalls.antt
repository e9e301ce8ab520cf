-- An unfinished run can go on: were every unfinished job blocked, each would wait for an unfinished one, since a finished plan holds nothing.
use Rattle.std.proofs.Common.{◌≡◌, ℕ, zero, suc, ◌<◌, ◌≤◌, Bool, true, false, not, ◌&&◌, eqb, ◌⊎◌, List, [], ◌∷◌}
use Rattle.std.proofs.Common.{length, Some, ap, subst, inl, inr, arith}
use Rattle.std.proofs.lemmas.Option.{slice_get_within}
use Rattle.std.proofs.lemmas.Bool.{cases_eq, cases_lt, cases_Bool, both_ways, ne_eqb, and_parts, and_from, lt-ltb, ltb-true, not-true, not_from_false, eqb-false, false_from_ne_true}
use Rattle.grove_base.specs.Numbers.{any_below}
use Rattle.grove_tree.specs.Trees.{Rows}
use Rattle.grove_base.proofs.Counting.{any_true, any_false}
use Rattle.grove_plan.specs.declared.step.Step.{Step}
use Rattle.grove_plan.specs.declared.step.Step.TheVariants.{Lock, Unlock, Access}
use Rattle.grove_plan.proofs.Held.{HeldAt, held_at, lock_same, unlock_no_lock, access_no_lock}
use Rattle.grove_core.specs.declared.job.Job.{Job}
use Rattle.grove_core.specs.declared.event.Event.{Event}
use Rattle.grove_core.specs.declared.event.Event.TheVariants.{Take, Mark}
use Rattle.grove_core.specs.Runs.{plan_of, steps_done, next_step, holds, IsFree, IsBlocked, MayHappen, IsRun, AllLegal}
use Rattle.grove_core.proofs.WaitingJobs.{unfinished, none_wait_among_themselves}
use Rattle.grove_core.specs.Laws.{CanGoOn, RunsGoOn}
use Rattle.grove_core.proofs.Precedence.{within_jobs}
use Rattle.grove_core.proofs.StepTimes.{steps_new, steps_other}
use Rattle.grove_base.proofs.Lists.{item_there}

-- A blocked job

abbrev pub is_other_holder : List Job → List Event → ℕ → ℕ → ℕ → Bool
is_other_holder jobs past t node u = not (eqb u t) && holds jobs past u node

-- a node that no other job holds is free
pub free_if : (jobs : List Job) (past : List Event) (t node : ℕ) → any_below (length jobs) (is_other_holder jobs past t node) ≡ false → IsFree jobs past t node
free_if jobs past t node none u ne = false_from_ne_true (holds jobs past u node) (λ h.
    let at : HeldAt (plan_of jobs u) node (steps_done past u) = held_at (plan_of jobs u) node (steps_done past u) h in
    both_ways (is_other_holder jobs past t node u)
    (any_false (length jobs) (is_other_holder jobs past t node) none u (within_jobs jobs u at.at (Lock node) at.is_lock))
    (and_from (not (eqb u t)) (holds jobs past u node) (not_from_false (eqb u t) (ne_eqb u t ne)) h))

-- a job with a next step may take it, or waits
take_or_wait : (jobs : List Job) (past : List Event) (t : ℕ) (s : Step) → next_step jobs past t ≡ Some s → MayHappen jobs past (Take t) ⊎ ((u : ℕ) × IsBlocked jobs past t u)
take_or_wait jobs past t (Unlock v) e = inl (Unlock v, e, λ node h. absurd (unlock_no_lock v node (ap (λ (s : Step). Some s) h)))
take_or_wait jobs past t (Access a) e = inl (Access a, e, λ node h. absurd (access_no_lock a node (ap (λ (s : Step). Some s) h)))
take_or_wait jobs past t (Lock v) e = elim (cases_Bool (any_below (length jobs) (is_other_holder jobs past t v))) [
  | inl some ↦ grind (arith, and_parts, any_true, eqb-false, not-true)
  | inr none ↦ inl (Lock v, e, λ node h. subst (λ (n : ℕ). IsFree jobs past t n) (lock_same v node h) (free_if jobs past t v none))
]

-- some job may take its next step, or each unfinished one waits
some_or_all : (jobs : List Job) (past : List Event) (n : ℕ) → CanGoOn jobs past ⊎ ((t : ℕ) → t < n → unfinished jobs past t ≡ true → (u : ℕ) × IsBlocked jobs past t u)
some_or_all jobs past zero = inr (λ t lt h. absurd (omega arith))
some_or_all jobs past (suc n) = elim (some_or_all jobs past n) [
  | inl found ↦ inl found
  | inr below ↦ elim (cases_Bool (unfinished jobs past n)) [
    | inl more ↦
        let s : (s : Step) × (next_step jobs past n ≡ Some s) = item_there (plan_of jobs n) (steps_done past n) (ltb-true (steps_done past n) (length (plan_of jobs n)) more) in
        elim (take_or_wait jobs past n s.0 s.1) [
          | inl may ↦ inl (n, may)
          | inr waits ↦ grind (arith, cases_eq)
        ]
    | inr done ↦ grind (arith, both_ways, cases_eq, unfinished)
  ]
]

-- a job has done no more steps than its plan has
pub steps_within : (jobs : List Job) (past : List Event) → IsRun jobs past → (t : ℕ) → steps_done past t ≤ length (plan_of jobs t)
steps_within jobs [] run t = omega arith
steps_within jobs (Mark u ∷ past) run t = steps_within jobs past run.1 t
steps_within jobs (Take u ∷ past) run t =
    grind (arith, cases_eq, slice_get_within, steps_new, steps_other, steps_within jobs past run.1 t)

-- who holds a node is unfinished
holder_unfinished : (rows : Rows) (jobs : List Job) → AllLegal rows jobs → (past : List Event) → IsRun jobs past → (u node : ℕ) → holds jobs past u node ≡ true
    → unfinished jobs past u ≡ true
holder_unfinished rows jobs legal past run u node h =
    let at : HeldAt (plan_of jobs u) node (steps_done past u) = held_at (plan_of jobs u) node (steps_done past u) h in
    grind (arith, both_ways, cases_lt, lt-ltb, steps_within, within_jobs)

-- while some job is unfinished some job may go on
pub runs_go_on : RunsGoOn
runs_go_on rows tree jobs legal past run t lt = elim (some_or_all jobs past (length jobs)) [
  | inl found ↦ found
  | inr all ↦ absurd (none_wait_among_themselves rows tree jobs legal past run (unfinished jobs past)
      (λ v more.
      let s : (s : Step) × (next_step jobs past v ≡ Some s) =
      item_there (plan_of jobs v) (steps_done past v) (ltb-true (steps_done past v) (length (plan_of jobs v)) more) in
      let (holder, blocked) = all v (within_jobs jobs v (steps_done past v) s.0 s.1) more in
      let (node, next, (other, holding)) = blocked in
      (holder, holder_unfinished rows jobs legal past run holder node holding, blocked))
      t (lt-ltb (steps_done past t) (length (plan_of jobs t)) lt))
]
