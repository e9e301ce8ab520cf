-- Jobs done whole, each alone: how far each job has come, and that this is a run without a wait.
use Rattle.std.proofs.Common.{◌≡◌, ◌≢◌, ℕ, zero, suc, ◌+◌, ◌<◌, ◌≤◌, false, List, length, Some, refl, sym, ◌∙◌}
use Rattle.std.proofs.Common.{ap, inl, inr, zero-add, arith}
use Rattle.std.specs.List.{slice_get}
use Rattle.std.proofs.lemmas.Bool.{cases_eq, cases_lt}
use Rattle.grove_base.proofs.Lists.{item_there}
use Rattle.grove_tree.specs.Trees.{Rows}
use Rattle.grove_plan.specs.declared.step.Step.{Step}
use Rattle.grove_plan.specs.Plans.{held}
use Rattle.grove_core.specs.declared.job.Job.{Job}
use Rattle.grove_core.specs.declared.event.Event.{Event}
use Rattle.grove_core.specs.Runs.{plan_of, AllLegal, steps_done, holds, IsRun, IsFinished, waits_of}
use Rattle.grove_core.specs.Alone.{steps_more, alone_below, alone}
use Rattle.grove_core.proofs.StepTimes.{steps_new, steps_other}

-- more steps of a job bring it on by as many
pub more_own : (t n : ℕ) (past : List Event) → steps_done (steps_more t n past) t ≡ n + steps_done past t
more_own t zero past = sym (zero-add (steps_done past t))
more_own t (suc n) past = grind (arith, steps_new, more_own t n past)

-- and no other job
more_other : (u t n : ℕ) (past : List Event) → u ≢ t → steps_done (steps_more u n past) t ≡ steps_done past t
more_other u t zero past ne = refl
more_other u t (suc n) past ne = steps_other (steps_more u n past) u t ne ∙ more_other u t n past ne

-- a job whose turn hasn't come has done nothing
pub not_yet : (jobs : List Job) (k t : ℕ) → k ≤ t → steps_done (alone_below jobs k) t ≡ 0
not_yet jobs zero t le = refl
not_yet jobs (suc k) t le =
    more_other k t (length (plan_of jobs k)) (alone_below jobs k) (λ e. omega arith) ∙ not_yet jobs k t (omega arith)

-- a job whose turn has been has done its plan
pub all_done : (jobs : List Job) (k t : ℕ) → t < k → steps_done (alone_below jobs k) t ≡ length (plan_of jobs t)
all_done jobs zero t lt = absurd (omega arith)
all_done jobs (suc k) t lt = elim (cases_eq k t) [
  | inl e ↦ grind (arith, more_own, not_yet)
  | inr ne ↦ more_other k t (length (plan_of jobs k)) (alone_below jobs k) ne ∙ all_done jobs k t (omega arith)
]

-- steps of a job that has done none yet, while no other job holds anything, go on a run
run_more : (jobs : List Job) (past : List Event) → IsRun jobs past → (t : ℕ) → steps_done past t ≡ 0
    → ((u node : ℕ) → u ≢ t → holds jobs past u node ≡ false) → (n : ℕ) → n ≤ length (plan_of jobs t)
    → IsRun jobs (steps_more t n past)
run_more jobs past run t begun free zero le = run
run_more jobs past run t begun free (suc n) le =
    let own : steps_done (steps_more t n past) t ≡ n + steps_done past t = more_own t n past in
    let at : steps_done (steps_more t n past) t ≡ n = omega arith in
    let there : (s : Step) × (slice_get (plan_of jobs t) n ≡ Some s) = item_there (plan_of jobs t) n (omega arith) in (
      (
        there.0,
        ap (λ (i : ℕ). slice_get (plan_of jobs t) i) at ∙ there.1,
        λ node lock u ne. ap (held (plan_of jobs u) node) (more_other t u n past (λ e. ne (sym e))) ∙ free u node ne,
      ),
      run_more jobs past run t begun free n (omega arith),
    )

-- where jobs have been done whole, no other job holds anything
all_free : (rows : Rows) (jobs : List Job) → AllLegal rows jobs → (k : ℕ) → k ≤ length jobs → (u node : ℕ) → u ≢ k
    → holds jobs (alone_below jobs k) u node ≡ false
all_free rows jobs legal k le u node ne = grind (arith, all_done, cases_lt, not_yet)

-- jobs done whole, each alone, are a run
pub is_run_below : (rows : Rows) (jobs : List Job) → AllLegal rows jobs → (k : ℕ) → k ≤ length jobs
    → IsRun jobs (alone_below jobs k)
is_run_below rows jobs legal zero le = tt
is_run_below rows jobs legal (suc k) le =
    run_more jobs (alone_below jobs k) (is_run_below rows jobs legal k (omega arith)) k (not_yet jobs k k (omega arith))
    (all_free rows jobs legal k (omega arith)) (length (plan_of jobs k)) (omega arith)

-- a run that is finished
pub is_finished : (jobs : List Job) → IsFinished jobs (alone jobs)
is_finished jobs t lt = all_done jobs (length jobs) t lt

-- steps make no wait
more_waits : (jobs : List Job) (t n : ℕ) (past : List Event) (node : ℕ)
    → waits_of jobs (steps_more t n past) node ≡ waits_of jobs past node
more_waits jobs t zero past node = refl
more_waits jobs t (suc n) past node = more_waits jobs t n past node

pub no_waits : (jobs : List Job) (k node : ℕ) → waits_of jobs (alone_below jobs k) node ≡ 0
no_waits jobs zero node = refl
no_waits jobs (suc k) node = grind (arith, more_waits, no_waits jobs k node)
