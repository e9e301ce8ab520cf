-- Effects, one after the other: what they lead to is one, and one more leads on.
use Rattle.std.proofs.Common.{◌≡◌, ℕ, ◌<◌, ◌^◌, List, [], ◌∷◌, ◌++◌, length, refl, sym, ap, ◌∙◌, subst, arith}
use Rattle.grove_effects.specs.Effects.{AreWords, changes_from, change_bytes, effect, LeadsTo}
use Rattle.grove_effects.proofs.Fronts.{IsChange, change_once, same_list}
use Rattle.grove_effects.proofs.Changes.{changes_fit, changes_once}

pub change_some : (change : ℕ × ℕ) → 0 < length (change_bytes change)
change_some change = let long : length (change_bytes change) ≡ 12 = refl in omega arith

-- an effect leads from numbers to no others
pub effect_once : (old new other : List ℕ) → length old < 2 ^ 32 → AreWords new → AreWords other
    → length new ≡ length old → length other ≡ length old → effect old new ≡ effect old other → new ≡ other
unfolding effect
effect_once old new other few words words' long long' same =
    changes_once 0 old new other long long'
    (same_list change_bytes IsChange change_once change_some (changes_from 0 old new) (changes_from 0 old other)
    (changes_fit 0 old new (omega arith) words) (changes_fit 0 old other (omega arith) words') same)

-- effects lead from numbers to no others
pub leads_once : (first : List ℕ) (effects : List (List ℕ)) (last other : List ℕ) → length first < 2 ^ 32
    → LeadsTo first effects last → LeadsTo first effects other → last ≡ other
leads_once first [] last other few leads leads' = sym leads ∙ leads'
leads_once first (bytes ∷ effects) last other few leads leads' =
    let same : leads.0 ≡ leads'.0 = effect_once first leads.0 leads'.0 few leads.1 leads'.1 leads.2 leads'.2
    (sym leads.3 ∙ leads'.3) in
    leads_once leads.0 effects last other (let long = leads.2 in omega arith) leads.4
    (subst (λ (l : List ℕ). LeadsTo l effects other) (sym same) leads'.4)

-- and to as many
pub leads_long : (first : List ℕ) (effects : List (List ℕ)) (last : List ℕ) → LeadsTo first effects last
    → length last ≡ length first
leads_long first [] last leads = ap (λ (l : List ℕ). length l) (sym leads)
leads_long first (bytes ∷ effects) last leads = leads_long leads.0 effects last leads.4 ∙ leads.2

-- one more leads on
pub leads_on : (first : List ℕ) (effects : List (List ℕ)) (last : List ℕ) (bytes next : List ℕ)
    → LeadsTo first effects last → AreWords next → length next ≡ length last → bytes ≡ effect last next
    → LeadsTo first (effects ++ bytes ∷ []) next
leads_on first [] last bytes next leads words long is = (
  next,
  words,
  long ∙ ap (λ (l : List ℕ). length l) (sym leads),
  is ∙ ap (λ (l : List ℕ). effect l next) (sym leads),
  refl,
)
leads_on first (e ∷ effects) last bytes next leads words long is =
    (leads.0, leads.1, leads.2, leads.3, leads_on leads.0 effects last bytes next leads.4 words long is)
