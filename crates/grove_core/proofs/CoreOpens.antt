-- The loops that open a core, a job further.
use Rattle.std.proofs.Common.{◌≡◌, ℕ, zero, suc, Bool, true, false, ◌+◌, ◌^◌, ◌<◌, ◌≤◌, List, [], ◌∷◌, ◌++◌, length}
use Rattle.std.proofs.Common.{set, replicate, Some, None, sym, ◌∙◌, ap, arith, add-one}
use Rattle.std.specs.List.{slice_get}
use Rattle.std.proofs.lemmas.Option.{none-some, same_Some, slice_get_within}
use Rattle.std.proofs.lemmas.List.{length-replicate}
use Rattle.std.proofs.lemmas.Bool.{cases_eq}
use Rattle.grove_base.specs.Numbers.{count_below, sum_below}
use Rattle.grove_tree.specs.Trees.{Rows, IsTree}
use Rattle.grove_base.proofs.Counting.{count_hit, count_miss}
use Rattle.grove_base.proofs.Lists.{get_append_cases, replicate_got, get_set_same, get_set_other}
use Rattle.grove_plan.specs.declared.step.Step.{Step}
use Rattle.grove_plan.specs.Plans.{is_lock}
use Rattle.grove_core.specs.declared.job.Job.{Job}
use Rattle.grove_core.specs.Kept.{CoreState}
use Rattle.grove_core.specs.declared.progress.Progress.{Progress}
use Rattle.grove_core.specs.declared.fault.OpenFault.{OpenFault}
use Rattle.grove_core.specs.declared.fault.OpenFault.TheVariants.{BadPlan, Memory}
use Rattle.grove_core.specs.Runs.{list_of, plan_of, AllLegal}
use Rattle.grove_core.specs.RunBounds.{lock_steps, most_events}
use Rattle.grove_core.specs.declared.owner.Owner.TheVariants.{Nobody}
use Rattle.grove_core.specs.Orders.{first_lock}
use Rattle.grove_core.specs.Cores.{IsFirst, TellsFirsts, run_of, Tables, IsCore}
use Rattle.grove_core.specs.Starts.{fault_of, IsFaultOf, HasStarted}
use Rattle.grove_core.specs.Openings.{job_fault, IsFirstFault}
use Rattle.grove_core.proofs.Precedence.{within_jobs}
use Rattle.grove_core.proofs.FirstLocks.{first_stands}
use Rattle.grove_core.proofs.CountChanges.{count_zero}
use Rattle.grove_core.proofs.RunSteps.{plan_of_at}

-- room for a plan's steps and lock steps
pub room_more : (jobs : List Job) (n room steps locks : ℕ) (job : Job) → slice_get jobs n ≡ Some job → steps ≡ length job.plan → locks ≡ lock_steps job.plan
    → sum_below n (λ t. length (plan_of jobs t) + lock_steps (plan_of jobs t)) ≤ room
    → sum_below (n + 1) (λ t. length (plan_of jobs t) + lock_steps (plan_of jobs t)) ≤ room + (steps + locks)
room_more jobs n room steps locks job at size number le = grind (arith, add-one, plan_of_at)

-- one step more that is a lock, or none
pub locks_counted : (plan : List Step) (n locks : ℕ) → locks ≡ count_below n (λ i. is_lock (slice_get plan i)) → is_lock (slice_get plan n) ≡ true
    → suc locks ≡ count_below (n + 1) (λ i. is_lock (slice_get plan i))
locks_counted plan n locks is here = grind (arith, add-one, count_hit)

pub locks_passed : (plan : List Step) (n locks : ℕ) → locks ≡ count_below n (λ i. is_lock (slice_get plan i)) → is_lock (slice_get plan n) ≡ false
    → locks ≡ count_below (n + 1) (λ i. is_lock (slice_get plan i))
locks_passed plan n locks is here = grind (arith, add-one, count_miss)

-- the fault of a job that is read is that of its number
pub job_fault_at : (rows : Rows) (jobs : List Job) (t : ℕ) (job : Job) → slice_get jobs t ≡ Some job → job_fault rows jobs t ≡ fault_of rows job
job_fault_at rows [] t job at = absurd (none-some job at)
job_fault_at rows (x ∷ jobs) zero job at = ap (fault_of rows) (same_Some x job at)
job_fault_at rows (x ∷ jobs) (suc t) job at = job_fault_at rows jobs t job at

-- a fault of a job after faultless ones is the first fault
pub first_fault : (rows : Rows) (jobs : List Job) (t : ℕ) (job : Job) → slice_get jobs t ≡ Some job → ((u : ℕ) → u < t → job_fault rows jobs u ≡ None)
    → (fault : OpenFault) → IsFaultOf (fault_of rows job) t fault → IsFirstFault rows jobs fault
first_fault rows jobs t job at before (BadPlan u fault) h = grind (arith, job_fault_at, slice_get_within)
first_fault rows jobs t job at before Memory h = tt

started_last : (n : ℕ) (jobs : List Job) (p : Progress) (t : ℕ) (q : Progress) (i : ℕ) → slice_get (p ∷ []) i ≡ Some q → t ≡ n + i
    → HasStarted (lock_steps (plan_of jobs n)) (length (list_of jobs n)) p → HasStarted (lock_steps (plan_of jobs t)) (length (list_of jobs t)) q
started_last n jobs p t q zero at e here = grind (arith, same_Some)
started_last n jobs p t q (suc i) at e here = absurd (none-some q at)

-- one job started more
pub started_more : (n : ℕ) (jobs : List Job) (all more : List Progress) (p : Progress) → length all ≡ n → more ≡ all ++ p ∷ []
    → ((t : ℕ) (q : Progress) → slice_get all t ≡ Some q → HasStarted (lock_steps (plan_of jobs t)) (length (list_of jobs t)) q) → HasStarted (lock_steps (plan_of jobs n)) (length (list_of jobs n)) p
    → (t : ℕ) (q : Progress) → slice_get more t ≡ Some q → HasStarted (lock_steps (plan_of jobs t)) (length (list_of jobs t)) q
started_more n jobs all more p size e so_far here t q at = grind (arith, get_append_cases, started_last)

-- a node that is told stays told when another is
pub told_kept : (firsts : List Bool) (node v : ℕ) → node < length firsts → slice_get firsts v ≡ Some true → slice_get (set firsts node true) v ≡ Some true
told_kept firsts node v within told = grind (arith, cases_eq, get_set_other, get_set_same)

-- the node that a read job locks first
pub first_read : (jobs : List Job) (t : ℕ) (job : Job) (steps : List Step) → slice_get jobs t ≡ Some job → steps ≡ job.plan → first_lock (plan_of jobs t) ≡ first_lock steps
first_read jobs t job steps at same = ap first_lock (plan_of_at jobs t job at ∙ sym same)

-- all that some job locks first are told, once the jobs are through
pub all_told : (nodes : ℕ) (jobs : List Job) (firsts : List Bool) (n : ℕ) → length jobs ≤ n → length firsts ≡ nodes
    → ((t : ℕ) → t < n → (node : ℕ) → first_lock (plan_of jobs t) ≡ Some node → slice_get firsts node ≡ Some true) → TellsFirsts nodes jobs firsts
all_told nodes jobs firsts n le size told = grind (arith, first_stands, within_jobs)

-- a node that some job locks first is one of the tree
pub firsts_within : (rows : Rows) (jobs : List Job) → AllLegal rows jobs → (node : ℕ) → IsFirst jobs node → node < length rows
firsts_within rows jobs legal node (t, first) = grind (arith, first_stands, within_jobs)

-- the core before the first event
pub opened : (core : CoreState) (kept : Tables) (n : ℕ) → core.history ≡ []
    → IsTree core.tree → length core.jobs ≤ 256 → AllLegal core.tree core.jobs → ((t : ℕ) → t < length core.jobs → length (plan_of core.jobs t) < 2 ^ 32) → length core.opening ≡ length core.tree
    → n ≡ length core.tree → most_events core.jobs ≤ kept.room → kept.records ≡ core.opening → length kept.progress ≡ length core.jobs
    → ((t : ℕ) (p : Progress) → slice_get kept.progress t ≡ Some p → HasStarted (lock_steps (plan_of core.jobs t)) (length (list_of core.jobs t)) p)
    → kept.owners ≡ replicate n Nobody → kept.waits ≡ replicate n 0 → TellsFirsts n core.jobs kept.firsts
    → IsCore (run_of core) kept
opened core kept n new tree few legal short size nodes room same all started free none firsts =
    grind (arith, count_zero, length-replicate, replicate_got)
