-- There are no jobs of which each waits for one of them. The times where each unfinished job has done the step that it stands before are as good as
-- those of a run, so there is an order that agrees with them; and the first of the jobs in it would wait for one that comes before it.
use Rattle.std.proofs.Common.{◌≡◌, ◌≢◌, ℕ, suc, ◌+◌, ◌<◌, ◌≤◌, Bool, true, false, cond, ◌&&◌, ltb, List, [], ◌∷◌, length, Option, Some, None, sym, ◌∙◌, ap, subst, inl, inr, arith}
use Rattle.std.specs.List.{slice_get}
use Rattle.std.proofs.lemmas.Option.{slice_get_within}
use Rattle.std.proofs.lemmas.Bool.{cases_lt, cases_Bool, both_ways, cond-true, cond-false, and_parts, and_from, lt-ltb, le-ltb, ltb-true}
use Rattle.grove_base.specs.Numbers.{any_below}
use Rattle.grove_tree.specs.Trees.{Rows, IsTree}
use Rattle.grove_base.proofs.Counting.{any_true, any_from}
use Rattle.grove_plan.specs.declared.step.Step.TheVariants.{Lock}
use Rattle.grove_plan.specs.Plans.{locks}
use Rattle.grove_plan.proofs.Held.{HeldAt, held_at, locks_true, locks_from}
use Rattle.grove_core.specs.declared.job.Job.{Job}
use Rattle.grove_core.specs.declared.event.Event.{Event}
use Rattle.grove_core.specs.Runs.{plan_of, steps_done, IsBlocked, IsRun, AllLegal}
use Rattle.grove_core.specs.Orders.{first_lock, order_by}
use Rattle.grove_core.proofs.ConflictEquivalence.{Among, Agrees}
use Rattle.grove_core.proofs.Precedence.{Timing, Precedes, within_jobs}
use Rattle.grove_core.proofs.PlacementOrder.{Tests, order_agrees}
use Rattle.grove_core.proofs.StepTimes.{time, time_within, time_grows, times_differ, Unlocked, exclusive}
use Rattle.grove_core.proofs.SerialRuns.{order_among}

-- The test of the order, for any times

abbrev locked_sooner : (jobs : List Job) (T : Timing jobs) (t u f i : ℕ) → ℕ → Bool
locked_sooner jobs T t u f i j = locks f (slice_get (plan_of jobs u) j) && ltb (T.time t i) (T.time u j)

abbrev locked_first : (jobs : List Job) (T : Timing jobs) (t u f : ℕ) → ℕ → Bool
locked_first jobs T t u f i = locks f (slice_get (plan_of jobs t) i) && any_below (T.steps_done u) (locked_sooner jobs T t u f i)

abbrev after_at : (jobs : List Job) (T : Timing jobs) (t u : ℕ) → Option ℕ → Bool
after_at jobs T t u None = false
after_at jobs T t u (Some f) = any_below (T.steps_done t) (locked_first jobs T t u f)

abbrev after_by : (jobs : List Job) (T : Timing jobs) → ℕ → ℕ → Bool
after_by jobs T t u = after_at jobs T t u (first_lock (plan_of jobs t))

tests_by : (jobs : List Job) (T : Timing jobs) → Tests jobs T (after_by jobs T)
tests_by jobs T = record {
  sound = λ t u f first h.
      let some : any_below (T.steps_done t) (locked_first jobs T t u f) ≡ true = sym (ap (after_at jobs T t u) first) ∙ h in
      let a : (i : ℕ) × (i < T.steps_done t) × (locked_first jobs T t u f i ≡ true) = any_true (T.steps_done t) (locked_first jobs T t u f) some in
      let parts : (locks f (slice_get (plan_of jobs t) a.0) ≡ true) × (any_below (T.steps_done u) (locked_sooner jobs T t u f a.0) ≡ true) =
      and_parts (locks f (slice_get (plan_of jobs t) a.0)) (any_below (T.steps_done u) (locked_sooner jobs T t u f a.0)) a.2 in
      let b : (j : ℕ) × (j < T.steps_done u) × (locked_sooner jobs T t u f a.0 j ≡ true) = any_true (T.steps_done u) (locked_sooner jobs T t u f a.0) parts.1 in
      let more : (locks f (slice_get (plan_of jobs u) b.0) ≡ true) × (ltb (T.time t a.0) (T.time u b.0) ≡ true) =
      and_parts (locks f (slice_get (plan_of jobs u) b.0)) (ltb (T.time t a.0) (T.time u b.0)) b.2 in
      record {
        first = record { at = a.0; is_lock = locks_true f (slice_get (plan_of jobs t) a.0) parts.0; done = a.1 };
        second = record { at = b.0; is_lock = locks_true f (slice_get (plan_of jobs u) b.0) more.0; done = b.1 };
        earlier = ltb-true (T.time t a.0) (T.time u b.0) more.1;
      };
  complete = λ t u f first before.
      ap (after_at jobs T t u) first
      ∙ any_from (T.steps_done t) (locked_first jobs T t u f) before.first.at before.first.done
      (and_from (locks f (slice_get (plan_of jobs t) before.first.at)) (any_below (T.steps_done u) (locked_sooner jobs T t u f before.first.at))
      (locks_from f (slice_get (plan_of jobs t) before.first.at) before.first.is_lock)
      (any_from (T.steps_done u) (locked_sooner jobs T t u f before.first.at) before.second.at before.second.done
      (and_from (locks f (slice_get (plan_of jobs u) before.second.at)) (ltb (T.time t before.first.at) (T.time u before.second.at))
      (locks_from f (slice_get (plan_of jobs u) before.second.at) before.second.is_lock)
      (lt-ltb (T.time t before.first.at) (T.time u before.second.at) before.earlier))));
}

-- The times where each unfinished job has taken one step more, at the end of the run

-- has a job a step left to do?
abbrev pub unfinished : List Job → List Event → ℕ → Bool
unfinished jobs past t = ltb (steps_done past t) (length (plan_of jobs t))

abbrev step_more : Bool → ℕ → ℕ
step_more true n = suc n
step_more false n = n

abbrev steps_ahead : List Job → List Event → ℕ → ℕ
steps_ahead jobs past t = step_more (unfinished jobs past t) (steps_done past t)

abbrev time_ahead : List Event → ℕ → ℕ → ℕ
time_ahead past t i = cond (ltb i (steps_done past t)) (time past t i) (length past + t)

step_more_le : (b : Bool) (n : ℕ) → step_more b n ≤ suc n
step_more_le true n = omega arith
step_more_le false n = omega arith

le_step_more : (b : Bool) (n : ℕ) → n ≤ step_more b n
le_step_more true n = omega arith
le_step_more false n = omega arith

time_done : (past : List Event) (t i : ℕ) → i < steps_done past t → time_ahead past t i ≡ time past t i
time_done past t i lt = cond-true (ltb i (steps_done past t)) (time past t i) (length past + t) (lt-ltb i (steps_done past t) lt)

time_pending : (past : List Event) (t i : ℕ) → steps_done past t ≤ i → time_ahead past t i ≡ length past + t
time_pending past t i le = cond-false (ltb i (steps_done past t)) (time past t i) (length past + t) (le-ltb i (steps_done past t) le)

ahead_grows : (jobs : List Job) (past : List Event) (t i j : ℕ) → i < j → j < steps_ahead jobs past t → time_ahead past t i < time_ahead past t j
ahead_grows jobs past t i j less lt =
    grind (arith, cases_lt, step_more_le, time, time_done, time_grows, time_pending, time_within)

ahead_differ : (past : List Event) (t u i j : ℕ) → t ≢ u → time_ahead past t i ≢ time_ahead past u j
ahead_differ past t u i j ne = grind (arith, cases_lt, time, time_done, time_pending, time_within, times_differ)

unfoldable ahead : (jobs : List Job) (past : List Event) → IsRun jobs past → Timing jobs
ahead jobs past run = record {
  steps_done = steps_ahead jobs past;
  time = time_ahead past;
  grows = ahead_grows jobs past;
  differ = λ t u i j ne lt less. ahead_differ past t u i j ne;
  apart = λ t u i j node ne h k did_i did_j lt.
      let bound : steps_ahead jobs past u ≤ suc (steps_done past u) = step_more_le (unfinished jobs past u) (steps_done past u) in
      let more : steps_done past t ≤ steps_ahead jobs past t = le_step_more (unfinished jobs past t) (steps_done past t) in
      let done_j : j < steps_done past u = omega arith in
      let f : time_ahead past u j ≡ time past u j = time_done past u j done_j in
      let w : time past u j < length past = time_within past u j done_j in
      let done_i : i < steps_done past t = elim (cases_lt i (steps_done past t)) [
        | inl y ↦ y
        | inr y ↦ let e : time_ahead past t i ≡ length past + t = time_pending past t i y in absurd (omega arith)
      ] in
      let e : time_ahead past t i ≡ time past t i = time_done past t i done_i in
      let at : Unlocked jobs past t i node (time past u j) = exclusive jobs past run t u i j node ne h k done_i done_j (omega arith) in
      let at_lt : at.at < steps_done past t = at.done in
      let early : time past t at.at < time past u j = at.early in
      let g : time_ahead past t at.at ≡ time past t at.at = time_done past t at.at at.done in
      (at.at, at.after, omega arith, at.is_unlock, omega arith);
}

-- Jobs that wait

-- the first of an order that passes comes after no other that does
record FirstOf (R : ℕ → ℕ → Type 0) (passes : ℕ → Bool) (order : List ℕ) : Type 0 where
  pub job : ℕ
  pub passing : passes job ≡ true
  pub first : (u : ℕ) → Among u order → passes u ≡ true → R u job → ⊥

first_of : (R : ℕ → ℕ → Type 0) → ((u t : ℕ) → R u t → u ≢ t) → (passes : ℕ → Bool) (order : List ℕ) → Agrees R order → (x : ℕ) → Among x order → passes x ≡ true
    → FirstOf R passes order
first_of R apart passes [] agrees x among h = absurd among
first_of R apart passes (y ∷ order) agrees x among h = elim (cases_Bool (passes y)) [
  | inl here ↦ record { job = y; passing = here; first = λ u in_order k r. elim in_order [ inl e ↦ apart u y r (sym e) | inr later ↦ agrees.0 u later r ] }
  | inr fails ↦
      let not_y : (u : ℕ) → passes u ≡ true → y ≡ u → ⊥ = λ u k e. both_ways (passes y) fails (subst (λ (n : ℕ). passes n ≡ true) (sym e) k) in
      let found : FirstOf R passes order = first_of R apart passes order agrees.1 x (elim among [ inl e ↦ absurd (not_y x h e) | inr later ↦ later ]) h in
      record { job = found.job; passing = found.passing; first = λ u in_order k r. elim in_order [ inl e ↦ not_y u k e | inr later ↦ found.first u later k r ] }
]

-- the holder of the node that a job waits for precedes it
holder_precedes : (jobs : List Job) (past : List Event) (run : IsRun jobs past) (t u : ℕ) → IsBlocked jobs past t u → Precedes jobs (ahead jobs past run) u t
unfolding ahead
holder_precedes jobs past run t u (node, next, (other, holding)) =
    let at : HeldAt (plan_of jobs u) node (steps_done past u) = held_at (plan_of jobs u) node (steps_done past u) holding in
    let at_lt : at.at < steps_done past u = at.before in
    let le : steps_done past u ≤ steps_ahead jobs past u = le_step_more (unfinished jobs past u) (steps_done past u) in
    let there : steps_done past t < length (plan_of jobs t) = slice_get_within (plan_of jobs t) (steps_done past t) (Lock node) next in
    let on : steps_ahead jobs past t ≡ suc (steps_done past t) =
    ap (λ (b : Bool). step_more b (steps_done past t)) (lt-ltb (steps_done past t) (length (plan_of jobs t)) there) in
    let e : time_ahead past u at.at ≡ time past u at.at = time_done past u at.at at.before in
    let f : time_ahead past t (steps_done past t) ≡ length past + t = time_pending past t (steps_done past t) (omega arith) in
    let within : time past u at.at < length past = time_within past u at.at at.before in
    record {
      node = node;
      differ = other;
      before = record {
        first = record { at = at.at; is_lock = at.is_lock; done = omega arith };
        second = record { at = steps_done past t; is_lock = next; done = omega arith };
        earlier = omega arith;
      };
    }

-- there are no jobs of which each waits for one of them
pub none_wait_among_themselves : (rows : Rows) → IsTree rows → (jobs : List Job) → AllLegal rows jobs → (past : List Event) → IsRun jobs past → (passes : ℕ → Bool)
    → ((t : ℕ) → passes t ≡ true → (u : ℕ) × (passes u ≡ true) × IsBlocked jobs past t u) → (t : ℕ) → passes t ≡ true → ⊥
none_wait_among_themselves rows tree jobs legal past run passes waits t h =
    let (u, passing, (node, next, by)) = waits t h in
    let first : FirstOf (Precedes jobs (ahead jobs past run)) passes (order_by rows jobs (after_by jobs (ahead jobs past run))) =
    first_of (Precedes jobs (ahead jobs past run)) (λ u w r. r.differ) passes (order_by rows jobs (after_by jobs (ahead jobs past run)))
    (order_agrees rows tree jobs legal (ahead jobs past run) (after_by jobs (ahead jobs past run)) (tests_by jobs (ahead jobs past run)))
    t (order_among rows tree jobs legal (after_by jobs (ahead jobs past run)) t (within_jobs jobs t (steps_done past t) (Lock node) next)) h in
    let (holder, also, blocked) = waits first.job first.passing in
    let (at, stands, (other, holding)) = blocked in
    let lock : HeldAt (plan_of jobs holder) at (steps_done past holder) = held_at (plan_of jobs holder) at (steps_done past holder) holding in
    first.first holder (order_among rows tree jobs legal (after_by jobs (ahead jobs past run)) holder (within_jobs jobs holder lock.at (Lock at) lock.is_lock)) also
    (holder_precedes jobs past run first.job holder blocked)
