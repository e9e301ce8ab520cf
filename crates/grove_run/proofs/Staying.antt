-- A carry is still of the core once its step is done.
use Rattle.std.proofs.Common.{◌≡◌, ◌≢◌, ℕ, ◌<◌, ℤ, eqb, List, [], ◌∷◌, ◌++◌, length, Option, Some, None, is_some, refl}
use Rattle.std.proofs.Common.{sym, ◌∙◌, ap, subst, inl, inr, arith}
use Rattle.std.specs.List.{slice_get}
use Rattle.std.proofs.lemmas.List.{append-nil}
use Rattle.std.proofs.lemmas.Option.{none-some, slice_get-get_or}
use Rattle.std.proofs.lemmas.Bool.{cases_eq, cases_Bool, eq-eqb, ne_eqb, cond-true, cond-false}
use Rattle.grove_access.specs.declared.known.Known.{Known}
use Rattle.grove_access.specs.Effects.{record_at}
use Rattle.grove_access.specs.Carries.{Carried, known_at, without, AreApart}
use Rattle.grove_access.proofs.CarriedNodes.{known_first, known_later, none_rest}
use Rattle.grove_plan.specs.declared.step.Step.{Step}
use Rattle.grove_plan.specs.declared.step.Step.TheVariants.{Lock, Unlock, Access}
use Rattle.grove_plan.specs.Plans.{locks, unlocks, held}
use Rattle.grove_plan.proofs.Held.{held_step_lock, held_step_unlock}
use Rattle.grove_core.specs.declared.event.Event.{Event}
use Rattle.grove_core.specs.declared.event.Event.TheVariants.{Take, Mark}
use Rattle.grove_core.specs.Runs.{list_of, plan_of, steps_done, next_step, holds, is_marked, AllLegal, deed_of}
use Rattle.grove_core.specs.Kept.{CoreState, past_of}
use Rattle.grove_core.specs.Carried.{records_of, IsOf}
use Rattle.grove_core.proofs.CoreReads.{reverse_last}
use Rattle.grove_core.proofs.RunSteps.{deeds_length}
use Rattle.grove_core.proofs.OwnerSteps.{holds_same}
use Rattle.grove_core.proofs.StepTimes.{steps_new}
use Rattle.grove_run.specs.declared.steps.CarryStep.{CarryStep}
use Rattle.grove_run.specs.declared.steps.CarryStep.TheVariants.{Stepped, Blocked, Ended, Foreign}
use Rattle.grove_run.specs.Books.{after_event, marked, IsDone}
use Rattle.grove_run.proofs.Stepping.{lock_within, lock_not_out}

-- a record that is taken in is read again
known_new : (known : List Known) (item : Known) → known_at known item.node ≡ None → known_at (known ++ item ∷ []) item.node ≡ Some item.value
known_new [] item none = known_first (item ∷ []) item [] item.node refl refl
known_new (k ∷ known) item none =
    let rest = none_rest k known item.node none in
    known_later (k ∷ known ++ item ∷ []) k (known ++ item ∷ []) item.node refl rest.0 ∙ known_new known item rest.1

-- and the others as before
known_others : (known : List Known) (item : Known) (node : ℕ) → item.node ≢ node → known_at (known ++ item ∷ []) node ≡ known_at known node
known_others [] item node other = known_later (item ∷ []) item [] node refl other
known_others (k ∷ known) item node other =
    grind (arith, cases_eq, known_first, known_later, known_others known item node other)

-- a record that is given back is out no more
known_gone : (known : List Known) (gone : ℕ) → AreApart known → known_at (without known gone) gone ≡ None
known_gone [] gone apart = refl
known_gone (k ∷ known) gone apart =
    grind (arith, cases_eq, cond-false, cond-true, eq-eqb, known_later, ne_eqb, known_gone known gone apart.1)

-- and the others are read as before
known_left : (known : List Known) (gone node : ℕ) → gone ≢ node → known_at (without known gone) node ≡ known_at known node
known_left [] gone node other = refl
known_left (k ∷ known) gone node other = elim (cases_eq k.node gone) [
  | inl same ↦ ap (λ ks. known_at ks node) (cond-true (eqb k.node gone) known (k ∷ without known gone) (eq-eqb k.node gone same))
      ∙ sym (known_later (k ∷ known) k known node refl (λ e. other (sym same ∙ e)))
  | inr apart ↦ ap (λ ks. known_at ks node) (cond-false (eqb k.node gone) known (k ∷ without known gone) (ne_eqb k.node gone apart))
      ∙ elim (cases_eq k.node node) [
        | inl here ↦ known_first (k ∷ without known gone) k (without known gone) node refl here ∙ sym (known_first (k ∷ known) k known node refl here)
        | inr there ↦ known_later (k ∷ without known gone) k (without known gone) node refl there ∙ known_left known gone node other
            ∙ sym (known_later (k ∷ known) k known node refl there)
      ]
]

-- a mark changes nothing that a carry knows
of_marked : (core : CoreState) (carry : Carried) → IsOf core carry → IsOf (after_event core (Mark carry.txn)) carry
of_marked core carry of = grind (arith, reverse_last)

stays_marked : (core : CoreState) (carry : Carried) → IsOf core carry → IsOf (marked core carry.txn) carry
stays_marked core carry of = elim (cases_Bool (is_marked (past_of core) carry.txn)) [
  | inl t ↦ subst (λ (s : CoreState). IsOf s carry) (sym (cond-true (is_marked (past_of core) carry.txn) core (after_event core (Mark carry.txn)) t)) of
  | inr f ↦ subst (λ (s : CoreState). IsOf s carry) (sym (cond-false (is_marked (past_of core) carry.txn) core (after_event core (Mark carry.txn)) f)) (of_marked core carry of)
]

-- a step that is no access leaves the records
records_left : (core : CoreState) (t : ℕ) (step : Step) → next_step core.jobs (past_of core) t ≡ Some step → deed_of t (list_of core.jobs t) (Some step) ≡ []
    → records_of (after_event core (Take t)) ≡ records_of core
records_left core t step next none = grind (arith, append-nil, reverse_last)

-- what a job holds after its step
held_after : (core : CoreState) (t node : ℕ) → holds core.jobs (past_of (after_event core (Take t))) t node ≡ holds core.jobs (Take t ∷ past_of core) t node
held_after core t node = ap (λ (es : List Event). holds core.jobs es t node) (reverse_last core.history (Take t))

-- a carry with no entries is of a core if what it has out is what its job holds, known as it is
of_settled : (core : CoreState) (carry : Carried) → carry.entries ≡ [] → carry.txn < length core.jobs
    → ((node : ℕ) → is_some (known_at carry.known node) ≡ holds core.jobs (past_of core) carry.txn node)
    → ((node : ℕ) (value : ℤ) → known_at carry.known node ≡ Some value → slice_get (records_of core) node ≡ Some value) → IsOf core carry
of_settled core carry none job out known = grind (arith, none-some)

-- the node is locked, and its record taken in
stays_locked : (core : CoreState) (carry : Carried) (v : ℕ) (value : ℤ) → known_at carry.known v ≡ None → slice_get (records_of core) v ≡ Some value → IsOf core carry → carry.entries ≡ []
    → next_step core.jobs (past_of core) carry.txn ≡ Some (Lock v)
    → IsOf (after_event core (Take carry.txn)) (record carry { known = carry.known ++ record { node = v; value = value } ∷ [] })
stays_locked core carry v value none there of settled next =
    let item : Known = record { node = v; value = value } in
    let new : Carried = record carry { known = carry.known ++ item ∷ [] } in
    let same : records_of (after_event core (Take carry.txn)) ≡ records_of core = records_left core carry.txn (Lock v) next refl in
    of_settled (after_event core (Take carry.txn)) new settled of.job
    (λ node. elim (cases_eq v node) [
      | inl e ↦ subst (λ (n : ℕ). is_some (known_at new.known n) ≡ holds core.jobs (past_of (after_event core (Take carry.txn))) carry.txn n) e
          (ap (λ (o : Option ℤ). is_some o) (known_new carry.known item none)
          ∙ sym (held_after core carry.txn v ∙ ap (held (plan_of core.jobs carry.txn) v) (steps_new (past_of core) carry.txn carry.txn refl)
          ∙ held_step_lock (plan_of core.jobs carry.txn) v (steps_done (past_of core) carry.txn) next))
      | inr other ↦ ap (λ (o : Option ℤ). is_some o) (known_others carry.known item node other) ∙ of.out node
          ∙ sym (held_after core carry.txn node
          ∙ holds_same core.jobs (past_of core) carry.txn node (ap (locks node) next ∙ ne_eqb v node other) (ap (unlocks node) next) carry.txn)
    ])
    (λ node known at. ap (λ (rs : List ℤ). slice_get rs node) same ∙ elim (cases_eq v node) [
      | inl e ↦ subst (λ (n : ℕ). slice_get (records_of core) n ≡ Some known) e
          (there ∙ sym (known_new carry.known item none) ∙ ap (known_at new.known) e ∙ at)
      | inr other ↦ of.known node known (sym (known_others carry.known item node other) ∙ at)
    ])

-- the node is unlocked, and its record given back
stays_unlocked : (core : CoreState) (carry : Carried) (v : ℕ) → AreApart carry.known → IsOf core carry → carry.entries ≡ [] → next_step core.jobs (past_of core) carry.txn ≡ Some (Unlock v)
    → IsOf (after_event core (Take carry.txn)) (record carry { known = without carry.known v })
stays_unlocked core carry v apart of settled next =
    let new : Carried = record carry { known = without carry.known v } in
    let same : records_of (after_event core (Take carry.txn)) ≡ records_of core = records_left core carry.txn (Unlock v) next refl in
    of_settled (after_event core (Take carry.txn)) new settled of.job
    (λ node. elim (cases_eq v node) [
      | inl e ↦ subst (λ (n : ℕ). is_some (known_at new.known n) ≡ holds core.jobs (past_of (after_event core (Take carry.txn))) carry.txn n) e
          (ap (λ (o : Option ℤ). is_some o) (known_gone carry.known v apart)
          ∙ sym (held_after core carry.txn v ∙ ap (held (plan_of core.jobs carry.txn) v) (steps_new (past_of core) carry.txn carry.txn refl)
          ∙ held_step_unlock (plan_of core.jobs carry.txn) v (steps_done (past_of core) carry.txn) next))
      | inr other ↦ ap (λ (o : Option ℤ). is_some o) (known_left carry.known v node other) ∙ of.out node
          ∙ sym (held_after core carry.txn node
          ∙ holds_same core.jobs (past_of core) carry.txn node (ap (locks node) next) (ap (unlocks node) next ∙ ne_eqb v node other) carry.txn)
    ])
    (λ node known at. ap (λ (rs : List ℤ). slice_get rs node) same ∙ elim (cases_eq v node) [
      | inl e ↦ absurd (none-some known (sym (known_gone carry.known v apart) ∙ ap (known_at new.known) e ∙ at))
      | inr other ↦ of.known node known (sym (known_left carry.known v node other) ∙ at)
    ])

-- the record of a node of the tree is there
record_there : (core : CoreState) (v : ℕ) → length core.opening ≡ length core.tree → v < length core.tree → slice_get (records_of core) v ≡ Some (record_at (records_of core) v)
record_there core v opened lt = grind (arith, deeds_length, slice_get-get_or)

-- whatever comes of the step of a settled carry
pub done_stays : (core after : CoreState) (carry new : Carried) (step : Step) (result : CarryStep) → AllLegal core.tree core.jobs → length core.opening ≡ length core.tree → AreApart carry.known
    → IsOf core carry → carry.entries ≡ [] → next_step core.jobs (past_of core) carry.txn ≡ Some step → IsDone core carry step result after new → IsOf after new
done_stays core after carry new (Lock v) Stepped legal opened apart of settled next done =
    rw (done.0, done.1) (stays_locked core carry v (record_at (records_of core) v) (lock_not_out core carry v legal of next)
    (record_there core v opened (lock_within core.tree core.jobs (past_of core) carry.txn v legal next)) of settled next)
done_stays core after carry new (Unlock v) Stepped legal opened apart of settled next done = rw (done.0, done.1) (stays_unlocked core carry v apart of settled next)
done_stays core after carry new (Access i) Stepped legal opened apart of settled next done = absurd done.1
done_stays core after carry new step Blocked legal opened apart of settled next done = rw (done.1, done.2) (stays_marked core carry of)
done_stays core after carry new step Ended legal opened apart of settled next done = absurd done
done_stays core after carry new step Foreign legal opened apart of settled next done = absurd done
