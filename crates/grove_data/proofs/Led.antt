-- Stores to which lawful rounds lead from one opening store have its names and workers.
use Rattle.std.proofs.Common.{◌≡◌, ◌⊎◌, List, [], ◌∷◌, refl, sym, ap, subst, ◌∙◌}
use Rattle.grove_tree.specs.Weights.{unweighed}
use Rattle.grove_store.specs.StoreStates.{StoreState, IsStore, IsSuccessor}
use Rattle.grove_store.proofs.RoundsKeep.{round_keeps}
use Rattle.grove_desk.specs.Histories.{RoundState, Leads, Led, store_before}
use Rattle.grove_data.specs.Copies.{KeepsLed}

-- stores have the same names and as many workers
abbrev AreAlike : StoreState → StoreState → Type 0
AreAlike before after = (unweighed after.rows ≡ unweighed before.rows) × (after.workers ≡ before.workers)

rounds_alike : (rounds : List RoundState) (last : StoreState) → Leads rounds last
    → AreAlike (store_before rounds last) last
rounds_alike [] last leads = (refl, refl)
rounds_alike (round ∷ rounds) last leads =
    let next = (round_keeps round.before _ _ (store_before rounds last) leads.0.round).0 in
    let rest = rounds_alike rounds last leads.1 in
    (rest.0 ∙ next.names, rest.1 ∙ next.workers)

led_alike : (opening last : StoreState) → Led opening last → AreAlike opening last
led_alike opening last led =
    let are = rounds_alike led.rounds last led.leads in (
      are.0 ∙ ap (λ (s : StoreState). unweighed s.rows) led.begins,
      are.1 ∙ ap (λ (s : StoreState). s.workers) led.begins,
    )

-- so each of them is a successor of each
pub next_by_led : (opening before after : StoreState) → IsStore before → IsStore after → Led opening before
    → Led opening after → IsSuccessor before after
next_by_led opening before after old new one other =
    let was = led_alike opening before one in
    let is = led_alike opening after other in
    record { old = old; new = new; names = is.0 ∙ sym was.0; workers = is.1 ∙ sym was.1 }

-- no rounds lead from a store to itself
pub led_here : (opening store : StoreState) → store ≡ opening → Led opening store
led_here opening store is = record { rounds = []; leads = tt; begins = is }

-- what a crash leaves is said of what keeps the copies, whichever that is called
module _ {K : Type 0} (stands_for : K → StoreState → Type 0) (leaves_only : K → K → (StoreState → Type 0) → Type 0)
    (opening copy : StoreState) where
  abbrev pub LeavesEither : K → K → Type 0
  LeavesEither old new = (before : KeepsLed stands_for opening old)
      × leaves_only old new (λ left. (left ≡ before.last) ⊎ (left ≡ copy))

  pub leaves_either : (inside old new : K) → inside ≡ old → (before : KeepsLed stands_for opening inside)
      → leaves_only inside new (λ left. (left ≡ before.last) ⊎ (left ≡ copy)) → LeavesEither old new
  leaves_either inside old new same before leaves =
      subst (λ (keeper : K). LeavesEither keeper new) same (before, leaves)
