-- The times of a job's locks, as they are kept.
use Rattle.std.proofs.Common.{◌≡◌, ◌≢◌, ℕ, eqb, List, [], ◌∷◌, ◌++◌, Option, Some, None, refl, sym, ◌∙◌, inl, inr}
use Rattle.std.proofs.Common.{arith}
use Rattle.std.proofs.lemmas.Option.{none-some}
use Rattle.std.proofs.lemmas.Bool.{cases_eq, eq-eqb, ne_eqb, cond-true, cond-false}
use Rattle.grove_tree.specs.Trees.{Rows}
use Rattle.grove_plan.specs.declared.step.Step.TheVariants.{Lock}
use Rattle.grove_plan.specs.Plans.{ObeysTreeProtocol}
use Rattle.grove_core.specs.declared.job.Job.{Job}
use Rattle.grove_core.specs.declared.event.Event.{Event}
use Rattle.grove_core.specs.declared.locking.Locked.{Locked}
use Rattle.grove_core.specs.Runs.{plan_of, next_step}
use Rattle.grove_core.specs.Orders.{lock_time}
use Rattle.grove_core.specs.Cores.{time_in}
use Rattle.grove_core.proofs.StepTimes.{time, lock_time_is}

-- the first lock is of the node
time_first : (lock : Locked) (locked : List Locked) (node : ℕ) → lock.node ≡ node → time_in (lock ∷ locked) node ≡ Some lock.time
time_first lock locked node same = cond-true (eqb lock.node node) (Some lock.time) (time_in locked node) (eq-eqb lock.node node same)

-- it is of another
time_later : (lock : Locked) (locked : List Locked) (node : ℕ) → lock.node ≢ node → time_in (lock ∷ locked) node ≡ time_in locked node
time_later lock locked node other = cond-false (eqb lock.node node) (Some lock.time) (time_in locked node) (ne_eqb lock.node node other)

-- the time of a lock that is added at the end is read, where the node had none
pub time_added : (locked : List Locked) (new : Locked) (node : ℕ) → new.node ≡ node → time_in locked node ≡ None → time_in (locked ++ new ∷ []) node ≡ Some new.time
time_added [] new node same none = time_first new [] node same
time_added (lock ∷ locked) new node same none = elim (cases_eq lock.node node) [
  | inl here ↦ absurd (none-some lock.time (sym none ∙ time_first lock locked node here))
  | inr other ↦ time_later lock (locked ++ new ∷ []) node other ∙ time_added locked new node same (sym (time_later lock locked node other) ∙ none)
]

-- and those of the others as before
pub time_kept : (locked : List Locked) (new : Locked) (node : ℕ) → new.node ≢ node → time_in (locked ++ new ∷ []) node ≡ time_in locked node
time_kept [] new node other = time_later new [] node other
time_kept (lock ∷ locked) new node other =
    grind (arith, cases_eq, time_first, time_later, time_kept locked new node other)

-- a node that a job is to lock has no lock time yet
pub none_before : (rows : Rows) (jobs : List Job) (past : List Event) (t node : ℕ) → ObeysTreeProtocol rows (plan_of jobs t) → next_step jobs past t ≡ Some (Lock node)
    → (o : Option ℕ) → lock_time jobs past t node ≡ o → o ≡ None
none_before rows jobs past t node obeys next None e = refl
none_before rows jobs past t node obeys next (Some s) e = grind (arith, lock_time_is, time)
