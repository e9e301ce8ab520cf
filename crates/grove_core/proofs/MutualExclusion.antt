-- In a run no two jobs hold one node.
use Rattle.std.proofs.Common.{◌≡◌, ◌≢◌, ℕ, ◌<◌, true, List, sym, inl, inr}
use Rattle.std.proofs.lemmas.Bool.{cases_eq, cases_order}
use Rattle.grove_plan.proofs.Held.{HeldAt, held_at}
use Rattle.grove_core.specs.declared.job.Job.{Job}
use Rattle.grove_core.specs.declared.event.Event.{Event}
use Rattle.grove_core.specs.Runs.{plan_of, steps_done, holds, IsRun}
use Rattle.grove_core.proofs.StepTimes.{time, times_differ, exclusive, Unlocked}

-- of two jobs, the one that locked a node first holds it no more
earlier_let_go : (jobs : List Job) (past : List Event) → IsRun jobs past → (t u node : ℕ) → t ≢ u
    → (one : HeldAt (plan_of jobs t) node (steps_done past t)) (other : HeldAt (plan_of jobs u) node (steps_done past u)) → time past t one.at < time past u other.at → ⊥
earlier_let_go jobs past run t u node ne one other lt =
    let gone : Unlocked jobs past t one.at node (time past u other.at) = exclusive jobs past run t u one.at other.at node ne one.is_lock other.is_lock one.before other.before lt in
    one.kept gone.at gone.after gone.done gone.is_unlock

-- in a run no two jobs hold one node
pub one_holder : (jobs : List Job) (past : List Event) → IsRun jobs past → (t u node : ℕ) → holds jobs past t node ≡ true → holds jobs past u node ≡ true → t ≡ u
one_holder jobs past run t u node holds_t holds_u = elim (cases_eq t u) [
  | inl e ↦ e
  | inr ne ↦
      let one : HeldAt (plan_of jobs t) node (steps_done past t) = held_at (plan_of jobs t) node (steps_done past t) holds_t in
      let other : HeldAt (plan_of jobs u) node (steps_done past u) = held_at (plan_of jobs u) node (steps_done past u) holds_u in
      elim (cases_order (time past t one.at) (time past u other.at)) [
        | inl same ↦ absurd (times_differ past t u one.at other.at ne one.before other.before same)
        | inr differ ↦ elim differ [
          | inl before ↦ absurd (earlier_let_go jobs past run t u node ne one other before)
          | inr after ↦ absurd (earlier_let_go jobs past run u t node (λ e. ne (sym e)) other one after)
        ]
      ]
]
