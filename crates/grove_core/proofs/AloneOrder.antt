-- Which job locked a node after which, where each was done alone: those with greater numbers.
use Rattle.std.proofs.Common.{◌≡◌, ℕ, zero, suc, ◌+◌, ◌<◌, ◌≤◌, true, ltb, List, length, Option, Some, None}
use Rattle.std.proofs.Common.{refl, sym, ◌∙◌, ap, inl, inr, arith}
use Rattle.std.specs.List.{slice_get}
use Rattle.std.proofs.lemmas.Option.{slice_get_within}
use Rattle.std.proofs.lemmas.Bool.{cases_lt, cases_order, and_parts, and_from, and_right, lt-ltb, ltb-true}
use Rattle.grove_base.proofs.Counting.{any_from, any_true, same_tests}
use Rattle.grove_tree.specs.Trees.{Rows}
use Rattle.grove_plan.specs.declared.step.Step.{Step}
use Rattle.grove_plan.specs.declared.step.Step.TheVariants.{Lock}
use Rattle.grove_plan.specs.Plans.{locks}
use Rattle.grove_plan.proofs.Held.{locks_true, locks_from}
use Rattle.grove_core.specs.declared.job.Job.{Job}
use Rattle.grove_core.specs.declared.event.Event.{Event}
use Rattle.grove_core.specs.Runs.{plan_of, AllLegal, steps_done, IsRun}
use Rattle.grove_core.specs.Orders.{first_lock, locked_after, order_by, placement_order}
use Rattle.grove_core.specs.Alone.{steps_more, alone_below, alone, locks_some, comes_after}
use Rattle.grove_core.proofs.Precedence.{Before, within_jobs}
use Rattle.grove_core.proofs.PlacementOrder.{Tests}
use Rattle.grove_core.proofs.StepTimes.{time, came, steps_old, time_old, time_new, time_within, run_timing, run_tests}
use Rattle.grove_core.proofs.FirstLocks.{first_stands}
use Rattle.grove_core.proofs.AloneSteps.{not_yet, all_done, is_run_below}

-- more steps take no job back
more_old : (u n : ℕ) (past : List Event) (t : ℕ) → steps_done past t ≤ steps_done (steps_more u n past) t
more_old u zero past t = omega arith
more_old u (suc n) past t = grind (arith, steps_old, more_old u n past t)

-- steps done before them keep their times
more_time_old : (u n : ℕ) (past : List Event) (t i : ℕ) → i < steps_done past t
    → time (steps_more u n past) t i ≡ time past t i
more_time_old u zero past t i lt = refl
more_time_old u (suc n) past t i lt = grind (arith, more_old, time_old, more_time_old u n past t i lt)

-- they are so many events
more_length : (u n : ℕ) (past : List Event) → length (steps_more u n past) ≡ n + length past
more_length u zero past = omega arith
more_length u (suc n) past = omega (arith, more_length u n past)

-- and they come later
more_time_new : (u n : ℕ) (past : List Event) (t i : ℕ) → steps_done past t ≤ i
    → i < steps_done (steps_more u n past) t → length past ≤ time (steps_more u n past) t i
more_time_new u zero past t i ge lt = absurd (omega arith)
more_time_new u (suc n) past t i ge lt = elim (came (steps_more u n past) u t i lt) [
  | inl old ↦ grind (arith, time_old, more_time_new u n past t i ge old)
  | inr new ↦ grind (arith, more_length, time_new)
]

-- of jobs done alone, each step of the one with the smaller number came first
in_turn : (jobs : List Job) (k t u i j : ℕ) → t < u → u < k → i < length (plan_of jobs t) → j < length (plan_of jobs u)
    → time (alone_below jobs k) t i < time (alone_below jobs k) u j
in_turn jobs zero t u i j lt below in_t in_u = absurd (omega arith)
in_turn jobs (suc k) t u i j lt below in_t in_u =
    let done_t : steps_done (alone_below jobs k) t ≡ length (plan_of jobs t) = all_done jobs k t (omega arith) in
    let old_t : time (alone_below jobs (suc k)) t i ≡ time (alone_below jobs k) t i =
    more_time_old k (length (plan_of jobs k)) (alone_below jobs k) t i (omega arith) in
    elim (cases_lt u k) [
      | inl less ↦ grind (arith, all_done, more_time_old, time, in_turn jobs k t u i j lt less in_t in_u)
      | inr ge ↦
          let none : steps_done (alone_below jobs k) u ≡ 0 = not_yet jobs k u ge in
          let done_u : steps_done (alone_below jobs (suc k)) u ≡ length (plan_of jobs u) =
          all_done jobs (suc k) u below in
          grind (arith, more_time_new, time, time_within)
    ]

-- A plan that locks a node somewhere, as a test and as a fact

-- a lock of it passes
locks_some_from : (plan : List Step) (o : Option ℕ) (node i : ℕ) → o ≡ Some node → slice_get plan i ≡ Some (Lock node)
    → locks_some plan o ≡ true
locks_some_from plan o node i e h =
    ap (locks_some plan) e
    ∙ any_from (length plan) (λ i. locks node (slice_get plan i)) i (slice_get_within plan i (Lock node) h)
    (locks_from node (slice_get plan i) h)

-- and where the test passes there is one
locks_some_true : (plan : List Step) (node : ℕ) → locks_some plan (Some node) ≡ true
    → (i : ℕ) × (slice_get plan i ≡ Some (Lock node))
locks_some_true plan node h = grind (arith, any_true, locks_true)

-- no job locked a node before it did
not_itself : (rows : Rows) (jobs : List Job) → AllLegal rows jobs → (past : List Event) (t u node i j : ℕ) → t ≡ u
    → slice_get (plan_of jobs t) i ≡ Some (Lock node) → slice_get (plan_of jobs u) j ≡ Some (Lock node)
    → time past t i < time past u j → ⊥
not_itself rows jobs legal past t u node i j same a b less = grind (arith, time, within_jobs)

-- a job that locked the node later has a greater number
after_if : (rows : Rows) (jobs : List Job) → AllLegal rows jobs → (t u node : ℕ)
    → first_lock (plan_of jobs t) ≡ Some node → locked_after jobs (alone jobs) t u ≡ true → comes_after jobs t u ≡ true
unfolding run_timing
after_if rows jobs legal t u node first h =
    let run : IsRun jobs (alone jobs) = is_run_below rows jobs legal (length jobs) (omega arith) in
    let tests : Tests jobs (run_timing jobs (alone jobs) run) (locked_after jobs (alone jobs)) =
    run_tests rows jobs legal (alone jobs) run in
    let before : Before jobs (run_timing jobs (alone jobs) run) node t u = tests.sound t u node first h in
    let a : slice_get (plan_of jobs t) before.first.at ≡ Some (Lock node) = before.first.is_lock in
    let b : slice_get (plan_of jobs u) before.second.at ≡ Some (Lock node) = before.second.is_lock in
    let less : time (alone jobs) t before.first.at < time (alone jobs) u before.second.at = before.earlier in
    and_from (ltb t u) (locks_some (plan_of jobs u) (first_lock (plan_of jobs t)))
    (elim (cases_order t u) [
      | inl same ↦ grind (arith, not_itself)
      | inr differ ↦ grind (arith, in_turn, lt-ltb, slice_get_within, time, within_jobs)
    ]) (locks_some_from (plan_of jobs u) (first_lock (plan_of jobs t)) node before.second.at first b)

-- and one with a greater number that locks it did so later
after_from : (rows : Rows) (jobs : List Job) → AllLegal rows jobs → (t u node : ℕ)
    → first_lock (plan_of jobs t) ≡ Some node → comes_after jobs t u ≡ true → locked_after jobs (alone jobs) t u ≡ true
unfolding run_timing
after_from rows jobs legal t u node first h =
    let run : IsRun jobs (alone jobs) = is_run_below rows jobs legal (length jobs) (omega arith) in
    let tests : Tests jobs (run_timing jobs (alone jobs) run) (locked_after jobs (alone jobs)) =
    run_tests rows jobs legal (alone jobs) run in
    let parts : (ltb t u ≡ true) × (locks_some (plan_of jobs u) (first_lock (plan_of jobs t)) ≡ true) =
    and_parts (ltb t u) (locks_some (plan_of jobs u) (first_lock (plan_of jobs t))) h in
    let lt : t < u = ltb-true t u parts.0 in
    let a : (i : ℕ) × (slice_get (plan_of jobs t) i ≡ Some (Lock node)) = first_stands (plan_of jobs t) node first in
    let b : (i : ℕ) × (slice_get (plan_of jobs u) i ≡ Some (Lock node)) =
    locks_some_true (plan_of jobs u) node (sym (ap (locks_some (plan_of jobs u)) first) ∙ parts.1) in
    let in_t : t < length jobs = within_jobs jobs t a.0 (Lock node) a.1 in
    let in_u : u < length jobs = within_jobs jobs u b.0 (Lock node) b.1 in
    let at_t : a.0 < length (plan_of jobs t) = slice_get_within (plan_of jobs t) a.0 (Lock node) a.1 in
    let at_u : b.0 < length (plan_of jobs u) = slice_get_within (plan_of jobs u) b.0 (Lock node) b.1 in
    let done_t : steps_done (alone jobs) t ≡ length (plan_of jobs t) = all_done jobs (length jobs) t in_t in
    let done_u : steps_done (alone jobs) u ≡ length (plan_of jobs u) = all_done jobs (length jobs) u in_u in
    let less : time (alone jobs) t a.0 < time (alone jobs) u b.0 =
    in_turn jobs (length jobs) t u a.0 b.0 lt in_u at_t at_u in
    let before : Before jobs (run_timing jobs (alone jobs) run) node t u = record {
      first = record { at = a.0; is_lock = a.1; done = omega arith };
      second = record { at = b.0; is_lock = b.1; done = omega arith };
      earlier = less;
    } in
    tests.complete t u node first before

-- by the first node, where there is one
after_by : (rows : Rows) (jobs : List Job) → AllLegal rows jobs → (t u : ℕ) → (o : Option ℕ)
    → first_lock (plan_of jobs t) ≡ o → locked_after jobs (alone jobs) t u ≡ comes_after jobs t u
after_by rows jobs legal t u None first = grind (arith, and_right)
after_by rows jobs legal t u (Some node) first =
    same_tests (locked_after jobs (alone jobs) t u) (comes_after jobs t u) (after_if rows jobs legal t u node first)
    (after_from rows jobs legal t u node first)

-- the run's test is that of the plans
pub alone_after : (rows : Rows) (jobs : List Job) → AllLegal rows jobs → (t u : ℕ)
    → locked_after jobs (alone jobs) t u ≡ comes_after jobs t u
alone_after rows jobs legal t u = after_by rows jobs legal t u (first_lock (plan_of jobs t)) refl

-- the order needs no event
pub alone_order : (rows : Rows) (jobs : List Job) → AllLegal rows jobs
    → placement_order rows jobs (alone jobs) ≡ order_by rows jobs (comes_after jobs)
alone_order rows jobs legal =
    let same : locked_after jobs (alone jobs) ≡ comes_after jobs = λ i. λ t u. alone_after rows jobs legal t u i in
    ap (order_by rows jobs) same
