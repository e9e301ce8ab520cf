-- What a step does to who holds the nodes, and to how many are held.
use Rattle.std.proofs.Common.{◌≡◌, ◌≢◌, ℕ, suc, ◌<◌, ◌≤◌, false, List, ◌∷◌, length, set, Option, Some, None, refl, sym}
use Rattle.std.proofs.Common.{◌∙◌, ap, inl, inr, arith}
use Rattle.std.specs.List.{slice_get}
use Rattle.std.proofs.lemmas.List.{length-set}
use Rattle.std.proofs.lemmas.Option.{same_Some, slice_get_within}
use Rattle.std.proofs.lemmas.Bool.{cases_eq, ne_eqb, le-ltb}
use Rattle.grove_base.specs.Numbers.{count_below}
use Rattle.grove_tree.specs.Trees.{Rows}
use Rattle.grove_plan.specs.declared.step.Step.TheVariants.{Lock, Unlock}
use Rattle.grove_plan.specs.Plans.{locks, unlocks, held, ObeysTreeProtocol}
use Rattle.grove_plan.proofs.Held.{held_not, held_step_lock, held_step_unlock, held_step_other}
use Rattle.grove_core.specs.declared.job.Job.{Job}
use Rattle.grove_core.specs.declared.event.Event.{Event}
use Rattle.grove_core.specs.declared.event.Event.TheVariants.{Take}
use Rattle.grove_core.specs.Runs.{plan_of, steps_done, next_step, holds}
use Rattle.grove_core.specs.Orders.{lock_time, earlier}
use Rattle.grove_core.specs.declared.owner.Owner.{Owner}
use Rattle.grove_core.specs.Cores.{Owns, IsLastAt, IsOwned}
use Rattle.grove_core.proofs.CountChanges.{count_added}
use Rattle.grove_core.proofs.StepTimes.{time, steps_new, steps_other, time_within, lock_time_is}
use Rattle.grove_core.proofs.RunSteps.{locks_lock}
use Rattle.grove_base.proofs.Lists.{get_set_same, get_set_other}

-- who holds a node, where nothing changed at it
pub owns_same : (jobs : List Job) (old new : List Event) (node : ℕ) (owner : Option ℕ) → ((u : ℕ) → holds jobs new u node ≡ holds jobs old u node) → Owns jobs old node owner → Owns jobs new node owner
owns_same jobs old new node None same h = λ t. same t ∙ h t
owns_same jobs old new node (Some t) same h = (same t ∙ h.0, λ u ne. same u ∙ h.1 u ne)

-- who locked it last, where its locks are the same
pub last_same : (jobs : List Job) (old new : List Event) (node : ℕ) (last : Option ℕ) → ((u : ℕ) → lock_time jobs new u node ≡ lock_time jobs old u node) → IsLastAt jobs old node last → IsLastAt jobs new node last
last_same jobs old new node None same h = tt
last_same jobs old new node (Some t) same h = λ u. ap (λ (o : Option ℕ). earlier o (lock_time jobs new u node)) (same t) ∙ ap (λ (o : Option ℕ). earlier (lock_time jobs old t node) o) (same u) ∙ h u

-- and both
pub owned_same : (jobs : List Job) (old new : List Event) (node : ℕ) (owner : Owner) → ((u : ℕ) → holds jobs new u node ≡ holds jobs old u node)
    → ((u : ℕ) → lock_time jobs new u node ≡ lock_time jobs old u node) → IsOwned jobs old node owner → IsOwned jobs new node owner
owned_same jobs old new node owner same times h = grind (arith, last_same, owns_same)

-- a lock that is the last event has no later one
pub none_later : (jobs : List Job) (past : List Event) (u node n : ℕ) → length past ≤ suc n → (o : Option ℕ) → lock_time jobs past u node ≡ o → earlier (Some n) o ≡ false
none_later jobs past u node n le None e = refl
none_later jobs past u node n le (Some s) e = grind (arith, le-ltb, lock_time_is, time, time_within)

pub holds_other : (jobs : List Job) (past : List Event) (t u node : ℕ) → t ≢ u → holds jobs (Take t ∷ past) u node ≡ holds jobs past u node
holds_other jobs past t u node ne = ap (held (plan_of jobs u) node) (steps_other past t u ne)

-- a step that neither locks nor unlocks a node leaves who holds it
pub holds_same : (jobs : List Job) (past : List Event) (t node : ℕ) → locks node (next_step jobs past t) ≡ false → unlocks node (next_step jobs past t) ≡ false
    → (u : ℕ) → holds jobs (Take t ∷ past) u node ≡ holds jobs past u node
holds_same jobs past t node no_lock no_unlock u = grind (arith, cases_eq, held_step_other, holds_other, steps_new)

-- a lock adds one node to those that the job holds
pub holding_locked : (rows : Rows) (jobs : List Job) (past : List Event) (t node n : ℕ) → ObeysTreeProtocol rows (plan_of jobs t) → next_step jobs past t ≡ Some (Lock node) → node < n
    → count_below n (λ v. holds jobs (Take t ∷ past) t v) ≡ suc (count_below n (λ v. holds jobs past t v))
holding_locked rows jobs past t node n obeys next within =
    count_added n node (λ v. holds jobs past t v) (λ v. holds jobs (Take t ∷ past) t v) within
    (held_not (plan_of jobs t) node (steps_done past t) (λ h.
    omega (arith, h.before, obeys.once h.at (steps_done past t) node h.is_lock next)))
    (ap (held (plan_of jobs t) node) (steps_new past t t refl) ∙ held_step_lock (plan_of jobs t) node (steps_done past t) next)
    (λ v ne. holds_same jobs past t v (locks_lock v node (next_step jobs past t) next ne) (ap (unlocks v) next) t)

-- and an unlock takes one away
pub holding_unlocked : (rows : Rows) (jobs : List Job) (past : List Event) (t node n : ℕ) → ObeysTreeProtocol rows (plan_of jobs t) → next_step jobs past t ≡ Some (Unlock node) → node < n
    → count_below n (λ v. holds jobs past t v) ≡ suc (count_below n (λ v. holds jobs (Take t ∷ past) t v))
holding_unlocked rows jobs past t node n obeys next within =
    count_added n node (λ v. holds jobs (Take t ∷ past) t v) (λ v. holds jobs past t v) within
    (ap (held (plan_of jobs t) node) (steps_new past t t refl) ∙ held_step_unlock (plan_of jobs t) node (steps_done past t) next)
    (obeys.unlocks_held (steps_done past t) node next)
    (λ v ne. sym (holds_same jobs past t v (ap (locks v) next) (ap (unlocks v) next ∙ ne_eqb node v ne) t))

-- a written owner, and the others
pub owned_after : (jobs : List Job) (past new : List Event) (owners : List Owner) (v : ℕ) (owner : Owner)
    → ((node : ℕ) (o : Owner) → slice_get owners node ≡ Some o → IsOwned jobs past node o)
    → IsOwned jobs new v owner → ((node : ℕ) → v ≢ node → (u : ℕ) → holds jobs new u node ≡ holds jobs past u node)
    → ((node : ℕ) → v ≢ node → (u : ℕ) → lock_time jobs new u node ≡ lock_time jobs past u node)
    → (node : ℕ) (o : Owner) → slice_get (set owners v owner) node ≡ Some o → IsOwned jobs new node o
owned_after jobs past new owners v owner all here same times node o h = elim (cases_eq v node) [
  | inl e ↦ grind (arith, get_set_same, length-set, same_Some, slice_get_within)
  | inr ne ↦ owned_same jobs past new node o (same node ne) (times node ne) (all node o (sym (get_set_other owners v node owner (λ e. ne (sym e))) ∙ h))
]
