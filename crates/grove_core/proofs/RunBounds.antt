-- How many events and marks a run can have.
use Rattle.std.proofs.Common.{◌≡◌, ◌≢◌, ℕ, zero, suc, ◌+◌, ◌<◌, ◌≤◌, Bool, true, false, cond, ◌&&◌, eqb, ℤ, List, []}
use Rattle.std.proofs.Common.{◌∷◌, ◌++◌, length, take, Option, Some, None, refl, sym, ◌∙◌, ap, inl, inr, arith}
use Rattle.std.proofs.Common.{length-append, zero-add, ◌⊎◌}
use Rattle.std.specs.List.{slice_get}
use Rattle.std.proofs.lemmas.Bool.{cases_eq, cases_Bool, both_ways, eq-eqb, ne_eqb, cond-true, cond-false}
use Rattle.grove_base.specs.Numbers.{count_below, sum_below}
use Rattle.grove_tree.specs.Trees.{Rows}
use Rattle.grove_base.proofs.Counting.{count_mono, count_hit, count_miss, sum_le, sum_same, sum_zero, numbers_got}
use Rattle.grove_access.specs.declared.access.Access.{Access}
use Rattle.grove_access.specs.declared.reply.Reply.{Reply}
use Rattle.grove_access.specs.Effects.{changed_by}
use Rattle.grove_plan.specs.declared.step.Step.{Step}
use Rattle.grove_plan.specs.declared.step.Step.TheVariants.{Lock, Unlock}
use Rattle.grove_plan.specs.declared.step.Step.TheVariants as plan_step
use Rattle.grove_plan.specs.Plans.{locks, is_lock, is_access}
use Rattle.grove_plan.specs.Slots.{accesses_before}
use Rattle.grove_plan.proofs.Held.{locks_true, access_at}
use Rattle.grove_core.specs.declared.job.Job.{Job}
use Rattle.grove_core.specs.declared.event.Event.{Event}
use Rattle.grove_core.specs.declared.event.Event.TheVariants.{Take, Mark}
use Rattle.grove_core.specs.Serial.{Deed, deeds_replies}
use Rattle.grove_core.specs.Runs.{list_of, plan_of, steps_done, next_step, is_marked, IsRun, AllLegal, deed_at, deed_of}
use Rattle.grove_core.specs.Runs.{run_replies, waits_of}
use Rattle.grove_core.specs.RunBounds.{most_events}
use Rattle.grove_core.proofs.ConflictEquivalence.{own, kept_if}
use Rattle.grove_core.proofs.EachOnce.{one_if}
use Rattle.grove_core.proofs.Precedence.{within_jobs}
use Rattle.grove_core.proofs.StepTimes.{steps_new, steps_other}
use Rattle.grove_core.proofs.OwnAccesses.{did, did_last, kept_run}
use Rattle.grove_core.proofs.NeverStalls.{steps_within}
use Rattle.grove_base.proofs.Lists.{item_there, take_next}
use Rattle.grove_access.proofs.Lists.{nodes_length}

-- where each fails, the count is 0
count_none : (n : ℕ) (test : ℕ → Bool) → ((k : ℕ) → k < n → test k ≡ false) → count_below n test ≡ 0
count_none zero test h = refl
count_none (suc n) test h = count_miss n test (h n (omega arith)) ∙ count_none n test (λ k lt. h k (omega arith))

-- the marks of a job, made while its next step passed
abbrev pub marks_by : List Job → (Option Step → Bool) → List Event → ℕ → ℕ
marks_by jobs p [] t = 0
marks_by jobs p (Take u ∷ past) t = marks_by jobs p past t
marks_by jobs p (Mark u ∷ past) t = one_if (eqb u t && p (next_step jobs past u)) + marks_by jobs p past t

-- the mark of the next step, where it passes
abbrev pending : List Job → (Option Step → Bool) → List Event → ℕ → ℕ
pending jobs p past t = one_if (is_marked past t && p (next_step jobs past t))

one_if_and : (b c : Bool) → one_if (b && c) ≤ one_if c
one_if_and true c = omega arith
one_if_and false c = omega arith

-- one more number counts where it passes
pub count_one : (n : ℕ) (test : ℕ → Bool) → count_below (suc n) test ≡ one_if (test n) + count_below n test
count_one n test = grind (arith, cases_Bool, count_hit, count_miss, one_if)

abbrev steps_by : List Job → (Option Step → Bool) → ℕ → ℕ → Bool
steps_by jobs p t i = p (slice_get (plan_of jobs t) i)

-- each mark is of a step done or of the next one
marks_within : (jobs : List Job) (p : Option Step → Bool) (past : List Event) → IsRun jobs past → (t : ℕ)
    → marks_by jobs p past t ≤ count_below (steps_done past t) (steps_by jobs p t) + pending jobs p past t
marks_within jobs p [] run t = omega arith
marks_within jobs p (Take u ∷ past) run t =
    let old : marks_by jobs p past t ≤ count_below (steps_done past t) (steps_by jobs p t) + pending jobs p past t = marks_within jobs p past run.1 t in
    elim (cases_eq u t) [
      | inl e ↦ grind (arith, count_one, one_if, one_if_and, steps_new)
      | inr ne ↦ grind (arith, cond-false, ne_eqb, one_if, steps_other)
    ]
marks_within jobs p (Mark u ∷ past) run t =
    grind (arith, cases_eq, cond-false, cond-true, eq-eqb, ne_eqb, one_if, one_if_and, marks_within jobs p past run.1 t)

-- a step that passes is there
step_there : (p : Option Step → Bool) → p None ≡ false → (plan : List Step) (i : ℕ) → p (slice_get plan i) ≡ true → i < length plan
step_there p none [] i h = absurd (both_ways (p None) none h)
step_there p none (s ∷ plan) zero h = omega arith
step_there p none (s ∷ plan) (suc i) h = let lt : i < length plan = step_there p none plan i h in omega arith

-- so there are no more marks than steps that pass
marks_most : (jobs : List Job) (p : Option Step → Bool) → p None ≡ false → (past : List Event) → IsRun jobs past → (t : ℕ)
    → marks_by jobs p past t ≤ count_below (length (plan_of jobs t)) (steps_by jobs p t)
marks_most jobs p none past run t =
    let old : marks_by jobs p past t ≤ count_below (steps_done past t) (steps_by jobs p t) + pending jobs p past t = marks_within jobs p past run t in
    let le : steps_done past t ≤ length (plan_of jobs t) = steps_within jobs past run t in
    let less : pending jobs p past t ≤ one_if (p (next_step jobs past t)) = one_if_and (is_marked past t) (p (next_step jobs past t)) in
    elim (cases_Bool (p (next_step jobs past t))) [
      | inl h ↦
          let one : count_below (suc (steps_done past t)) (steps_by jobs p t) ≡ one_if (p (next_step jobs past t)) + count_below (steps_done past t) (steps_by jobs p t) = count_one (steps_done past t) (steps_by jobs p t) in
          let lt : steps_done past t < length (plan_of jobs t) = step_there p none (plan_of jobs t) (steps_done past t) h in
          let more : count_below (suc (steps_done past t)) (steps_by jobs p t) ≤ count_below (length (plan_of jobs t)) (steps_by jobs p t) = count_mono (suc (steps_done past t)) (length (plan_of jobs t)) (steps_by jobs p t) (omega arith) in
          omega arith
      | inr h ↦ grind (arith, count_mono, one_if)
    ]

-- a sum with one term more by one
sum_bump : (n u : ℕ) (f g : ℕ → ℕ) → u < n → g u ≡ suc (f u) → ((t : ℕ) → u ≢ t → g t ≡ f t) → sum_below n g ≡ suc (sum_below n f)
sum_bump zero u f g lt here others = absurd (omega arith)
sum_bump (suc n) u f g lt here others = elim (cases_eq u n) [
  | inl e ↦ grind (arith, sum_same)
  | inr ne ↦ omega (arith, sum_bump n u f g (omega arith) here others, others n ne)
]

-- the marks at a node, job by job
waits_sum : (jobs : List Job) (past : List Event) → IsRun jobs past → (node : ℕ) → waits_of jobs past node ≡ sum_below (length jobs) (marks_by jobs (locks node) past)
waits_sum jobs [] run node = sym (sum_zero (length jobs) (marks_by jobs (locks node) []) (λ k lt. refl))
waits_sum jobs (Take u ∷ past) run node = waits_sum jobs past run.1 node
waits_sum jobs (Mark u ∷ past) run node =
    let old : waits_of jobs past node ≡ sum_below (length jobs) (marks_by jobs (locks node) past) = waits_sum jobs past run.1 node in
    let lt : u < length jobs = within_jobs jobs u (steps_done past u) (Lock run.0.0) run.0.1 in
    elim (cases_Bool (locks node (next_step jobs past u))) [
      | inl h ↦
          let one : ◌≡◌ {A = ℕ} (cond (locks node (next_step jobs past u)) 1 0) 1 = cond-true (locks node (next_step jobs past u)) 1 0 h in
          let more : sum_below (length jobs) (marks_by jobs (locks node) (Mark u ∷ past)) ≡ suc (sum_below (length jobs) (marks_by jobs (locks node) past)) =
          sum_bump (length jobs) u (marks_by jobs (locks node) past) (marks_by jobs (locks node) (Mark u ∷ past)) lt
          (let a : one_if (eqb u u && locks node (next_step jobs past u)) ≡ 1 = ap (λ (b : Bool). one_if (b && locks node (next_step jobs past u))) (eq-eqb u u refl) ∙ ap one_if h in omega arith)
          (λ t ne. let a : one_if (eqb u t && locks node (next_step jobs past u)) ≡ 0 = ap (λ (b : Bool). one_if (b && locks node (next_step jobs past u))) (ne_eqb u t ne) in omega arith) in
          omega arith
      | inr h ↦ grind (arith, cond-false, one_if, one_if_and, sum_same)
    ]

-- at most one number passes
count_single : (n : ℕ) (test : ℕ → Bool) → ((i j : ℕ) → test i ≡ true → test j ≡ true → i ≡ j) → count_below n test ≤ 1
count_single zero test once = omega arith
count_single (suc n) test once = grind (arith, cases_Bool, count_hit, count_miss, count_none, count_single n test once)

sum_ones : (n : ℕ) (f : ℕ → ℕ) → ((k : ℕ) → k < n → f k ≤ 1) → sum_below n f ≤ n
sum_ones zero f h = omega arith
sum_ones (suc n) f h =
    let here : f n ≤ 1 = h n (omega arith) in
    let rest : sum_below n f ≤ n = sum_ones n f (λ k lt. h k (omega arith)) in omega arith

-- a node is waited for at most once by each job
pub waits_most : (rows : Rows) (jobs : List Job) → AllLegal rows jobs → (past : List Event) → IsRun jobs past → (node : ℕ) → waits_of jobs past node ≤ length jobs
waits_most rows jobs legal past run node = grind (arith, count_single, locks_true, marks_most, sum_ones, waits_sum)

-- a node that was waited for is one that some job's plan locks
pub waited_locked : (jobs : List Job) (past : List Event) (node : ℕ)
    → (waits_of jobs past node ≡ 0) ⊎ ((t : ℕ) × (i : ℕ) × (slice_get (plan_of jobs t) i ≡ Some (Lock node)))
waited_locked jobs [] node = inl refl
waited_locked jobs (Take u ∷ past) node = waited_locked jobs past node
waited_locked jobs (Mark u ∷ past) node = grind (arith, cases_Bool, locks_true, zero-add, waited_locked jobs past node)

-- the events, job by job
events_sum : (jobs : List Job) (past : List Event) → IsRun jobs past → length past ≡ sum_below (length jobs) (λ t. steps_done past t + marks_by jobs is_lock past t)
events_sum jobs [] run = sym (sum_zero (length jobs) (λ t. steps_done [] t + marks_by jobs is_lock [] t) (λ k lt. refl))
events_sum jobs (Take u ∷ past) run =
    let old : length past ≡ sum_below (length jobs) (λ t. steps_done past t + marks_by jobs is_lock past t) = events_sum jobs past run.1 in
    let more : sum_below (length jobs) (λ t. steps_done (Take u ∷ past) t + marks_by jobs is_lock (Take u ∷ past) t) ≡ suc (sum_below (length jobs) (λ t. steps_done past t + marks_by jobs is_lock past t)) =
    sum_bump (length jobs) u (λ t. steps_done past t + marks_by jobs is_lock past t) (λ t. steps_done (Take u ∷ past) t + marks_by jobs is_lock (Take u ∷ past) t)
    (within_jobs jobs u (steps_done past u) run.0.0 run.0.1)
    (let n : steps_done (Take u ∷ past) u ≡ suc (steps_done past u) = steps_new past u u refl in omega arith)
    (λ t ne. ap (λ (k : ℕ). k + marks_by jobs is_lock past t) (steps_other past u t ne)) in
    omega arith
events_sum jobs (Mark u ∷ past) run =
    let old : length past ≡ sum_below (length jobs) (λ t. steps_done past t + marks_by jobs is_lock past t) = events_sum jobs past run.1 in
    let more : sum_below (length jobs) (λ t. steps_done past t + marks_by jobs is_lock (Mark u ∷ past) t) ≡ suc (sum_below (length jobs) (λ t. steps_done past t + marks_by jobs is_lock past t)) =
    sum_bump (length jobs) u (λ t. steps_done past t + marks_by jobs is_lock past t) (λ t. steps_done past t + marks_by jobs is_lock (Mark u ∷ past) t)
    (within_jobs jobs u (steps_done past u) (Lock run.0.0) run.0.1)
    (let a : one_if (eqb u u && is_lock (next_step jobs past u)) ≡ 1 = ap (λ (b : Bool). one_if (b && is_lock (next_step jobs past u))) (eq-eqb u u refl) ∙ ap (λ (o : Option Step). one_if (is_lock o)) run.0.1 in omega arith)
    (λ t ne. let a : one_if (eqb u t && is_lock (next_step jobs past u)) ≡ 0 = ap (λ (b : Bool). one_if (b && is_lock (next_step jobs past u))) (ne_eqb u t ne) in omega arith) in
    omega arith

-- a run has no more events than its plans have steps and lock steps
pub history_bound : (jobs : List Job) (past : List Event) → IsRun jobs past → length past ≤ most_events jobs
history_bound jobs past run = grind (arith, events_sum, marks_most, steps_within, sum_le)

-- The replies of a job

at_count : (t : ℕ) (o : Option Access) → length (deed_at t o) ≤ 1
at_count t None = omega arith
at_count t (Some visit) = omega arith

of_count : (t : ℕ) (list : List Access) (s : Step) → length (deed_of t list (Some s)) ≤ one_if (is_access (Some s))
of_count t list (Lock v) = omega arith
of_count t list (Unlock v) = omega arith
of_count t list (plan_step.Access n) = at_count t (slice_get list n)

did_count : (t : ℕ) (list : List Access) (plan : List Step) (n : ℕ) → n ≤ length plan → length (did t list (take n plan)) ≤ accesses_before plan n
did_count t list plan zero le = omega arith
did_count t list plan (suc n) le =
    let at : (s : Step) × (slice_get plan n ≡ Some s) = item_there plan n (omega arith) in
    let e : did t list (take (suc n) plan) ≡ did t list (take n plan) ++ deed_of t list (Some at.0) = ap (did t list) (take_next plan n at.0 at.1) ∙ did_last t list (take n plan) at.0 in
    let f : length (did t list (take (suc n) plan)) ≡ length (did t list (take n plan)) + length (deed_of t list (Some at.0)) = ap length e ∙ length-append (did t list (take n plan)) (deed_of t list (Some at.0)) in
    omega (
      arith,
      did_count t list plan n (omega arith),
      of_count t list at.0,
      count_one n (λ i. is_access (slice_get plan i)),
      ap (λ (o : Option Step). one_if (is_access o)) at.1,
    )

reply_if : (b : Bool) (r : Reply) (rs : List Reply) → length (cond b (r ∷ rs) rs) ≡ one_if b + length rs
reply_if true r rs = omega arith
reply_if false r rs = omega arith

deed_if : (b : Bool) (d : Deed) (ds : List Deed) → length (kept_if b d ds) ≡ one_if b + length ds
deed_if true d ds = omega arith
deed_if false d ds = omega arith

replies_own : (ds : List Deed) (start : List ℤ) (t : ℕ) → length (deeds_replies ds start t) ≡ length (own t ds)
replies_own [] start t = refl
replies_own (d ∷ ds) start t = grind (arith, deed_if, own, reply_if, replies_own ds (changed_by d.access start) t)

-- an access step does an access of the list, and has fewer replies before it than the list has accesses
pub record Accessing (jobs : List Job) (opening : List ℤ) (past : List Event) (t number : ℕ) : Type 0 where
  pub listed : number < length (list_of jobs t)
  pub fewer : length (run_replies jobs opening past t) < length (list_of jobs t)

-- every access that comes next is such
pub accessing : (rows : Rows) (jobs : List Job) → AllLegal rows jobs → (opening : List ℤ) (past : List Event) → IsRun jobs past → (t number : ℕ)
    → next_step jobs past t ≡ Some (plan_step.Access number) → Accessing jobs opening past t number
accessing rows jobs legal opening past run t number next =
    let lt : t < length jobs = within_jobs jobs t (steps_done past t) (plan_step.Access number) next in
    grind (arith, access_at, did, did_count, kept_run, nodes_length, numbers_got, replies_own, steps_within)
