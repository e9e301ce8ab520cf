-- Effects that lead from numbers to others, one after the other.
use Rattle.std.proofs.Common.{◌≡◌, ℕ, List, [], ◌∷◌, ◌++◌, length, refl, sym, ap, ◌∙◌, subst}
use Rattle.grove_effects.specs.Effects.{AreWords, effect, LeadsTo}
use Rattle.grove_effects.specs.Snapshots.{Names, snapshot, IsSnapshot}
use Rattle.grove_effects.proofs.Once.{leads_long, leads_on}
use Rattle.grove_data.specs.Numbers.{Hold}
use Rattle.grove_data.specs.Parts.{AreNames}

-- payloads with one effect more behind them
pub hold_more : (payloads : List (List ℕ)) (names : Names) (last next : List ℕ) → AreWords next
    → length next ≡ length last → Hold payloads names last → Hold (payloads ++ effect last next ∷ []) names next
hold_more payloads names last next words long held = record {
  first = held.first;
  effects = held.effects ++ effect last next ∷ [];
  begins = ap (λ (l : List (List ℕ)). l ++ effect last next ∷ []) held.begins;
  words = held.words;
  leads = leads_on held.first held.effects last (effect last next) next held.leads words long refl;
}

-- a snapshot alone
pub hold_whole : (names : Names) (numbers : List ℕ) → AreWords numbers
    → Hold (snapshot names numbers ∷ []) names numbers
hold_whole names numbers words =
    record { first = numbers; effects = []; begins = refl; words = words; leads = refl }

-- effects were applied up to some numbers, and these are left
pub record IsOnWay (first : List ℕ) (all : List (List ℕ)) (numbers : List ℕ) (rest : List (List ℕ)) : Type 0 where
  pub led : (last : List ℕ) → LeadsTo numbers rest last → LeadsTo first all last
  pub only : (last : List ℕ) → LeadsTo first all last → LeadsTo numbers rest last
  pub long : length numbers ≡ length first

pub started : (first : List ℕ) (all : List (List ℕ)) → IsOnWay first all first all
started first all = record { led = λ last leads. leads; only = λ last leads. leads; long = refl }

-- numbers that an effect leads to are these and no others
abbrev pub LeadsOnly : List ℕ → List ℕ → List ℕ → Type 0
LeadsOnly numbers bytes new = (next : List ℕ) → AreWords next → length next ≡ length numbers
    → bytes ≡ effect numbers next → new ≡ next

pub went_on : (first : List ℕ) (all : List (List ℕ)) (numbers bytes new : List ℕ) (effects rest : List (List ℕ))
    → IsOnWay first all numbers effects → effects ≡ bytes ∷ rest → AreWords new → length new ≡ length numbers
    → bytes ≡ effect numbers new → LeadsOnly numbers bytes new → IsOnWay first all new rest
went_on first all numbers bytes new effects rest way are words long is once = record {
  led = λ last leads. way.led last
      (subst (λ (es : List (List ℕ)). LeadsTo numbers es last) (sym are) (new, words, long, is, leads));
  only = λ last leads. turned last
      (subst (λ (es : List (List ℕ)). LeadsTo numbers es last) are (way.only last leads));
  long = long ∙ way.long;
}
  where
    turned : (last : List ℕ) → LeadsTo numbers (bytes ∷ rest) last → LeadsTo new rest last
    turned last (next, are_words, longs, same, leads) =
        subst (λ (l : List ℕ). LeadsTo l rest last) (sym (once next are_words longs same)) leads

-- what payloads begin with, where they stand for names and numbers
pub record BeginsWith (names : Names) (numbers bytes : List ℕ) (rest : List (List ℕ)) : Type 0 where
  pub first : List ℕ
  pub is : IsSnapshot names first bytes
  pub leads : LeadsTo first rest numbers
  pub long : length first ≡ length numbers

pub begun : (payloads : List (List ℕ)) (names : Names) (numbers bytes : List ℕ) (rest : List (List ℕ))
    → Hold payloads names numbers → AreNames names → payloads ≡ bytes ∷ rest → BeginsWith names numbers bytes rest
begun payloads names numbers bytes rest held are is =
    let same : bytes ∷ rest ≡ snapshot names held.first ∷ held.effects = sym is ∙ held.begins in
    let whole : bytes ≡ snapshot names held.first = cc in
    let behind : held.effects ≡ rest = cc in
    record {
      first = held.first;
      is = record { few = are.0; named = are.1; words = held.words; stands = whole };
      leads = subst (λ (es : List (List ℕ)). LeadsTo held.first es numbers) behind held.leads;
      long = sym (leads_long held.first held.effects numbers held.leads);
    }
