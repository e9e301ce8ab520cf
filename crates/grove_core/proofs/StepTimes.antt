-- The times of a run's steps, and what the run's rules make of them.
use Rattle.std.proofs.Common.{◌≡◌, ◌≢◌, ℕ, suc, ◌<◌, ◌≤◌, true, false, cond, ◌&&◌, eqb, ◌⊎◌, List, [], ◌∷◌, length, Option, Some, None, refl, sym, ◌∙◌, ap, inl, inr, arith}
use Rattle.std.specs.List.{slice_get}
use Rattle.std.proofs.lemmas.Option.{none-some, same_Some}
use Rattle.std.proofs.lemmas.Bool.{cases_eq, cases_lt, cases_Bool, both_ways, eqb-true, eq-eqb, ne_eqb, cond-true, cond-false, and_parts, and_from, and_right, lt-ltb, ltb-true}
use Rattle.grove_plan.specs.declared.step.Step.{Step}
use Rattle.grove_plan.specs.declared.step.Step.TheVariants.{Lock, Unlock}
use Rattle.grove_plan.specs.Plans.{locks}
use Rattle.grove_plan.proofs.Held.{locks_true, locks_from}
use Rattle.grove_tree.specs.Trees.{Rows}
use Rattle.grove_core.specs.declared.job.Job.{Job}
use Rattle.grove_core.specs.declared.event.Event.{Event}
use Rattle.grove_core.specs.declared.event.Event.TheVariants.{Take, Mark}
use Rattle.grove_core.specs.Runs.{plan_of, steps_done, next_step, holds, IsRun, AllLegal}
use Rattle.grove_core.specs.Orders.{lock_time, earlier, locked_after_at, locked_after}
use Rattle.grove_core.proofs.Precedence.{Timing, within_jobs, unlocked_since}
use Rattle.grove_core.proofs.PlacementOrder.{Tests}

-- how many events came before a job's step
abbrev pub time : List Event → ℕ → ℕ → ℕ
time [] t i = 0
time (Take u ∷ past) t i = cond (eqb u t && eqb i (steps_done past t)) (length past) (time past t i)
time (Mark u ∷ past) t i = time past t i

-- a step brings its job on by one
pub steps_new : (past : List Event) (u t : ℕ) → u ≡ t → steps_done (Take u ∷ past) t ≡ suc (steps_done past t)
steps_new past u t e = cond-true (eqb u t) (suc (steps_done past t)) (steps_done past t) (eq-eqb u t e)

-- and no other job
pub steps_other : (past : List Event) (u t : ℕ) → u ≢ t → steps_done (Take u ∷ past) t ≡ steps_done past t
steps_other past u t ne = cond-false (eqb u t) (suc (steps_done past t)) (steps_done past t) (ne_eqb u t ne)

-- a done step is the newest event or an older one
pub came : (past : List Event) (u t i : ℕ) → i < steps_done (Take u ∷ past) t → (i < steps_done past t) ⊎ ((u ≡ t) × (i ≡ steps_done past t))
came past u t i lt = grind (arith, cases_eq, cases_lt, steps_new, steps_other)

-- no event takes a job back
pub steps_old : (e : Event) (past : List Event) (t : ℕ) → steps_done past t ≤ steps_done (e ∷ past) t
steps_old (Take u) past t = grind (arith, cases_eq, steps_new, steps_other)
steps_old (Mark u) past t = omega arith

-- an older step keeps its time
pub time_old : (e : Event) (past : List Event) (t i : ℕ) → i < steps_done past t → time (e ∷ past) t i ≡ time past t i
time_old (Take u) past t i lt = grind (arith, and_right, cond-false, ne_eqb)
time_old (Mark u) past t i lt = refl

-- the newest step has the newest time
pub time_new : (past : List Event) (u t i : ℕ) → u ≡ t → i ≡ steps_done past t → time (Take u ∷ past) t i ≡ length past
time_new past u t i e f = grind (arith, and_from, cond-true, eq-eqb)

-- a done step came before now
pub time_within : (past : List Event) (t i : ℕ) → i < steps_done past t → time past t i < length past
time_within [] t i lt = absurd (omega arith)
time_within (Take u ∷ past) t i lt = elim (came past u t i lt) [
  | inl old ↦ omega (arith, time_old (Take u) past t i old, time_within past t i old)
  | inr new ↦ let e : time (Take u ∷ past) t i ≡ length past = time_new past u t i new.0 new.1 in omega arith
]
time_within (Mark u ∷ past) t i lt = let h : time past t i < length past = time_within past t i lt in omega arith

-- a later step of a job has a later time
pub time_grows : (past : List Event) (t i j : ℕ) → i < j → j < steps_done past t → time past t i < time past t j
time_grows [] t i j less lt = absurd (omega arith)
time_grows (Take u ∷ past) t i j less lt = elim (came past u t j lt) [
  | inl old ↦ grind (arith, time_old, time_grows past t i j less old)
  | inr new ↦ grind (arith, time_new, time_old, time_within)
]
time_grows (Mark u ∷ past) t i j less lt = time_grows past t i j less lt

-- no two jobs' steps have one time
pub times_differ : (past : List Event) (t u i j : ℕ) → t ≢ u → i < steps_done past t → j < steps_done past u → time past t i ≢ time past u j
times_differ [] t u i j ne lt less = absurd (omega arith)
times_differ (Take w ∷ past) t u i j ne lt less = elim (came past w t i lt) [
  | inl old ↦
      let e : time (Take w ∷ past) t i ≡ time past t i = time_old (Take w) past t i old in
      let h : time past t i < length past = time_within past t i old in
      elim (came past w u j less) [
        | inl older ↦ let f : time (Take w ∷ past) u j ≡ time past u j = time_old (Take w) past u j older in
            λ same. times_differ past t u i j ne old older (sym e ∙ same ∙ f)
        | inr new ↦ let f : time (Take w ∷ past) u j ≡ length past = time_new past w u j new.0 new.1 in λ same. omega arith
      ]
  | inr new ↦ grind (arith, came, time_new, time_old, time_within)
]
times_differ (Mark w ∷ past) t u i j ne lt less = times_differ past t u i j ne lt less

-- an unlock of a node after a job's step and before a time
pub record Unlocked (jobs : List Job) (past : List Event) (t i node before : ℕ) : Type 0 where
  pub at : ℕ
  pub after : i < at
  pub done : at < steps_done past t
  pub is_unlock : slice_get (plan_of jobs t) at ≡ Some (Unlock node)
  pub early : time past t at < before

unlocked_old : (jobs : List Job) (e : Event) (past : List Event) (t i node before more : ℕ) → before ≤ more → Unlocked jobs past t i node before
    → Unlocked jobs (e ∷ past) t i node more
unlocked_old jobs e past t i node before more le h = grind (arith, steps_old, time_old)

-- what a step is, seen through an equation of jobs and places
step_at : (jobs : List Job) (past : List Event) (w u j : ℕ) (s : Step) → w ≡ u → j ≡ steps_done past u → slice_get (plan_of jobs u) j ≡ Some s → next_step jobs past w ≡ Some s
step_at jobs past w u j s e f h = ap (λ (k : ℕ). next_step jobs past k) e ∙ ap (λ (k : ℕ). slice_get (plan_of jobs u) k) (sym f) ∙ h

-- a node that two jobs locked was unlocked by the earlier one before the later one locked it
pub exclusive : (jobs : List Job) (past : List Event) → IsRun jobs past → (t u i j node : ℕ) → t ≢ u
    → slice_get (plan_of jobs t) i ≡ Some (Lock node) → slice_get (plan_of jobs u) j ≡ Some (Lock node)
    → i < steps_done past t → j < steps_done past u → time past t i < time past u j → Unlocked jobs past t i node (time past u j)
exclusive jobs [] run t u i j node ne h k did_i did_j lt = absurd (omega arith)
exclusive jobs (Mark w ∷ past) run t u i j node ne h k did_i did_j lt =
    unlocked_old jobs (Mark w) past t i node (time past u j) (time past u j) (omega arith) (exclusive jobs past run.1 t u i j node ne h k did_i did_j lt)
exclusive jobs (Take w ∷ past) run t u i j node ne h k did_i did_j lt = elim (came past w u j did_j) [
  | inl old_j ↦
      let f : time (Take w ∷ past) u j ≡ time past u j = time_old (Take w) past u j old_j in
      let within : time past u j < length past = time_within past u j old_j in
      elim (came past w t i did_i) [
        | inl old_i ↦
            let e : time (Take w ∷ past) t i ≡ time past t i = time_old (Take w) past t i old_i in
            unlocked_old jobs (Take w) past t i node (time past u j) (time (Take w ∷ past) u j) (omega arith)
            (exclusive jobs past run.1 t u i j node ne h k old_i old_j (omega arith))
        | inr new_i ↦ let e : time (Take w ∷ past) t i ≡ length past = time_new past w t i new_i.0 new_i.1 in absurd (omega arith)
      ]
  | inr new_j ↦
      let f : time (Take w ∷ past) u j ≡ length past = time_new past w u j new_j.0 new_j.1 in
      let other : w ≢ t = λ e. ne (sym e ∙ new_j.0) in
      let same : steps_done (Take w ∷ past) t ≡ steps_done past t = steps_other past w t other in
      let is_step : run.0.0 ≡ Lock node = same_Some run.0.0 (Lock node) (sym run.0.1 ∙ step_at jobs past w u j (Lock node) new_j.0 new_j.1 k) in
      let free : holds jobs past t node ≡ false = run.0.2 node is_step t (λ e. other (sym e)) in
      grind (arith, time_old, time_within, unlocked_since)
]

-- the times of a run
unfoldable pub run_timing : (jobs : List Job) (past : List Event) → IsRun jobs past → Timing jobs
run_timing jobs past run = record {
  steps_done = steps_done past;
  time = time past;
  grows = time_grows past;
  differ = times_differ past;
  apart = λ t u i j node ne h k did_i did_j lt.
      let at : Unlocked jobs past t i node (time past u j) = exclusive jobs past run t u i j node ne h k did_i (omega arith) lt in
      (at.at, at.after, at.done, at.is_unlock, at.early);
}

-- the time of a lock, as the definition of the order has it
pub lock_time_is : (jobs : List Job) (past : List Event) (t node s : ℕ) → lock_time jobs past t node ≡ Some s
    → (i : ℕ) × (slice_get (plan_of jobs t) i ≡ Some (Lock node)) × (i < steps_done past t) × (time past t i ≡ s)
lock_time_is jobs [] t node s h = absurd (none-some s h)
lock_time_is jobs (Mark u ∷ past) t node s h = lock_time_is jobs past t node s h
lock_time_is jobs (Take u ∷ past) t node s h =
    elim (cases_Bool (eqb u t && locks node (next_step jobs past u))) [
      | inl yes' ↦ grind (arith, and_parts, cond-true, eqb-true, locks_true, same_Some, steps_new, time_new)
      | inr no' ↦
          let found : (i : ℕ) × (slice_get (plan_of jobs t) i ≡ Some (Lock node)) × (i < steps_done past t) × (time past t i ≡ s) =
          lock_time_is jobs past t node s (sym (cond-false (eqb u t && locks node (next_step jobs past u)) (Some (length past)) (lock_time jobs past t node) no') ∙ h) in
          grind (arith, steps_old, time_old)
    ]

-- a lock that was done has the time of its step
pub lock_time_did : (jobs : List Job) (t node : ℕ) → ((i j : ℕ) → slice_get (plan_of jobs t) i ≡ Some (Lock node) → slice_get (plan_of jobs t) j ≡ Some (Lock node) → i ≡ j)
    → (past : List Event) (i : ℕ) → slice_get (plan_of jobs t) i ≡ Some (Lock node) → i < steps_done past t → lock_time jobs past t node ≡ Some (time past t i)
lock_time_did jobs t node once [] i h lt = absurd (omega arith)
lock_time_did jobs t node once (Mark u ∷ past) i h lt = lock_time_did jobs t node once past i h lt
lock_time_did jobs t node once (Take u ∷ past) i h lt =
    elim (cases_Bool (eqb u t && locks node (next_step jobs past u))) [
      | inl yes' ↦ grind (arith, and_parts, cond-true, eqb-true, locks_true, time_new)
      | inr no' ↦
          cond-false (eqb u t && locks node (next_step jobs past u)) (Some (length past)) (lock_time jobs past t node) no'
          ∙ elim (came past u t i lt) [
            | inl old ↦ lock_time_did jobs t node once past i h old ∙ ap (λ (k : ℕ). Some k) (sym (time_old (Take u) past t i old))
            | inr new ↦ grind (arith, and_from, both_ways, eq-eqb, locks_from, step_at)
          ]
    ]

-- what the comparison of two times says
pub earlier_true : (a b : Option ℕ) → earlier a b ≡ true → (m : ℕ) × (n : ℕ) × (a ≡ Some m) × (b ≡ Some n) × (m < n)
earlier_true None b h = absurd (cc)
earlier_true (Some m) None h = absurd (cc)
earlier_true (Some m) (Some n) h = (m, n, refl, refl, ltb-true m n h)

earlier_from : (a b : Option ℕ) (m n : ℕ) → a ≡ Some m → b ≡ Some n → m < n → earlier a b ≡ true
earlier_from a b m n e f lt = rw (e, f) (lt-ltb m n lt)

-- the order's test is a test of the run's times
pub run_tests : (rows : Rows) (jobs : List Job) → AllLegal rows jobs → (past : List Event) → (run : IsRun jobs past) → Tests jobs (run_timing jobs past run) (locked_after jobs past)
unfolding run_timing
run_tests rows jobs legal past run = record {
  sound = λ t u f first h.
      let found : (m : ℕ) × (n : ℕ) × (lock_time jobs past t f ≡ Some m) × (lock_time jobs past u f ≡ Some n) × (m < n) =
      earlier_true (lock_time jobs past t f) (lock_time jobs past u f) (sym (ap (locked_after_at jobs past t u) first) ∙ h) in
      let a : (i : ℕ) × (slice_get (plan_of jobs t) i ≡ Some (Lock f)) × (i < steps_done past t) × (time past t i ≡ found.0) = lock_time_is jobs past t f found.0 found.2 in
      let b : (i : ℕ) × (slice_get (plan_of jobs u) i ≡ Some (Lock f)) × (i < steps_done past u) × (time past u i ≡ found.1) = lock_time_is jobs past u f found.1 found.3 in
      let e : time past t a.0 ≡ found.0 = a.3 in
      let g : time past u b.0 ≡ found.1 = b.3 in
      let lt : found.0 < found.1 = found.4 in
      record {
        first = record { at = a.0; is_lock = a.1; done = a.2 };
        second = record { at = b.0; is_lock = b.1; done = b.2 };
        earlier = omega arith;
      };
  complete = grind (arith, earlier_from, lock_time_did, within_jobs);
}
