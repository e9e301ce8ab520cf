-- Times of the steps done, seen apart from any run: what two jobs did with a node that both held.
use Rattle.std.proofs.Common.{◌≡◌, ◌≢◌, ℕ, zero, suc, ◌<◌, Bool, false, ◌&&◌, ltb, List, [], ◌∷◌, length, Some, sym}
use Rattle.std.proofs.Common.{inl, inr, arith}
use Rattle.std.specs.List.{slice_get}
use Rattle.std.proofs.lemmas.Option.{none-some}
use Rattle.std.proofs.lemmas.Bool.{cases_lt, cases_eq, cases_Bool, both_ways, and_parts, and_from, ltb-true, lt-ltb}
use Rattle.grove_base.specs.Numbers.{any_below}
use Rattle.grove_base.proofs.Counting.{any_true, any_false}
use Rattle.grove_plan.specs.declared.step.Step.{Step}
use Rattle.grove_plan.specs.declared.step.Step.TheVariants.{Lock, Unlock}
use Rattle.grove_plan.specs.Plans.{unlocks, held}
use Rattle.grove_plan.proofs.Held.{HeldAt, held_from, unlocks_true, unlocks_from}
use Rattle.grove_core.specs.declared.job.Job.{Job}
use Rattle.grove_core.specs.Runs.{plan_of}

-- only jobs that are there have steps
pub within_jobs : (jobs : List Job) (t i : ℕ) (s : Step) → slice_get (plan_of jobs t) i ≡ Some s → t < length jobs
within_jobs [] t i s h = absurd (none-some s h)
within_jobs (job ∷ jobs) zero i s h = omega arith
within_jobs (job ∷ jobs) (suc t) i s h = let lt : t < length jobs = within_jobs jobs t i s h in omega arith

-- a node that was locked and isn't held was unlocked in between
pub unlocked_since : (plan : List Step) (node position i : ℕ) → held plan node position ≡ false → i < position → slice_get plan i ≡ Some (Lock node)
    → (k : ℕ) × (i < k) × (k < position) × (slice_get plan k ≡ Some (Unlock node))
unlocked_since plan node position i free lt is_lock =
    let test : ℕ → Bool = λ j. ltb i j && unlocks node (slice_get plan j) in
    elim (cases_Bool (any_below position test)) [
      | inl some ↦ grind (arith, and_parts, any_true, ltb-true, unlocks_true)
      | inr none ↦ absurd (both_ways (held plan node position) free (held_from plan node position (record {
        at = i;
        before = lt;
        is_lock = is_lock;
        kept = λ j above below is. both_ways (test j) (any_false position test none j below)
            (and_from (ltb i j) (unlocks node (slice_get plan j)) (lt-ltb i j above) (unlocks_from node (slice_get plan j) is));
      })))
    ]

-- How far each job has come, and when it did each step: no two at once, and a node that is locked was unlocked before,
-- but for a lock that is the last step done.
pub record Timing (jobs : List Job) : Type 0 where
  pub steps_done : ℕ → ℕ
  pub time : ℕ → ℕ → ℕ
  pub grows : (t i j : ℕ) → i < j → j < steps_done t → time t i < time t j
  pub differ : (t u i j : ℕ) → t ≢ u → i < steps_done t → j < steps_done u → time t i ≢ time u j
  pub apart : (t u i j node : ℕ) → t ≢ u → slice_get (plan_of jobs t) i ≡ Some (Lock node) → slice_get (plan_of jobs u) j ≡ Some (Lock node)
      → i < steps_done t → suc j < steps_done u → time t i < time u j
      → (k : ℕ) × (i < k) × (k < steps_done t) × (slice_get (plan_of jobs t) k ≡ Some (Unlock node)) × (time t k < time u j)

-- a job has locked a node
pub record Locked (jobs : List Job) (T : Timing jobs) (t node : ℕ) : Type 0 where
  pub at : ℕ
  pub is_lock : slice_get (plan_of jobs t) at ≡ Some (Lock node)
  pub done : at < T.steps_done t

-- a job locked a node before another job did
pub record Before (jobs : List Job) (T : Timing jobs) (node t u : ℕ) : Type 0 where
  pub first : Locked jobs T t node
  pub second : Locked jobs T u node
  pub earlier : T.time t first.at < T.time u second.at

-- the same of some node, and another job
pub record Precedes (jobs : List Job) (T : Timing jobs) (t u : ℕ) : Type 0 where
  pub node : ℕ
  pub differ : t ≢ u
  pub before : Before jobs T node t u

-- of two jobs that hold a node, the one that does something with it first has locked it first
pub held_order : (jobs : List Job) (T : Timing jobs) (t u node i j : ℕ) → t ≢ u
    → (a : HeldAt (plan_of jobs t) node i) → (b : HeldAt (plan_of jobs u) node j) → i < T.steps_done t → j < T.steps_done u
    → (slice_get (plan_of jobs u) j ≡ Some (Unlock node) → ⊥) → T.time t i < T.time u j → T.time t a.at < T.time u b.at
held_order jobs T t u node i j ne a b did_i did_j keeps lt =
    let a_lt : a.at < i = a.before in
    let b_lt : b.at < j = b.before in
    elim (cases_lt (T.time t a.at) (T.time u b.at)) [
      | inl y ↦ y
      | inr ge ↦
          let apart : T.time t a.at ≢ T.time u b.at = T.differ t u a.at b.at ne (omega arith) (omega arith) in
          let less : T.time u b.at < T.time t a.at = omega arith in
          let found : (k : ℕ) × (b.at < k) × (k < T.steps_done u) × (slice_get (plan_of jobs u) k ≡ Some (Unlock node)) × (T.time u k < T.time t a.at) =
          T.apart u t b.at a.at node (λ e. ne (sym e)) b.is_lock a.is_lock (omega arith) (omega arith) less in
          grind (arith, cases_eq, cases_lt)
    ]
