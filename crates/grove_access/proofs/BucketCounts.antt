-- How many of the nodes that are out fall into a bucket.
use Rattle.std.proofs.Common.{◌≡◌, ◌≢◌, ℕ, ◌+◌, ◌-◌, ◌<◌, ◌≤◌, ◌%◌, ℤ, eqb, List, [], ◌∷◌, ◌++◌, length, set, slice_get, Some, None, refl, ap, sym, ◌∙◌, inl, inr, arith}
use Rattle.std.proofs.lemmas.Option.{none-some, same_Some, slice_get_within}
use Rattle.std.proofs.lemmas.Bool.{cond-true, cond-false, eq-eqb, ne_eqb, cases_eq}
use Rattle.grove_base.proofs.Lists.{get_set_same, get_set_other}
use Rattle.grove_access.specs.declared.known.Known.{Known}
use Rattle.grove_access.specs.declared.entry.Entry.{Entry}
use Rattle.grove_access.specs.Carries.{known_at, without, settled}
use Rattle.grove_access.specs.KnownPlaces.{in_bucket, Counts}
use Rattle.grove_access.proofs.CarriedNodes.{known_later, without_first, without_later}

-- one node more
pub in_more : (known : List Known) (item : Known) (bucket : ℕ) → in_bucket (known ++ item ∷ []) bucket ≡ in_bucket known bucket + in_bucket (item ∷ []) bucket
in_more [] item bucket = omega arith
in_more (k ∷ known) item bucket = let rest : in_bucket (known ++ item ∷ []) bucket ≡ in_bucket known bucket + in_bucket (item ∷ []) bucket = in_more known item bucket in omega arith

-- a node falls into its own bucket
in_own : (item : Known) (node : ℕ) → item.node ≡ node → in_bucket (item ∷ []) (node % 256) ≡ 1
in_own item node same = ap (λ (n : ℕ). n + 0) (cond-true (eqb (item.node % 256) (node % 256)) 1 0 (eq-eqb (item.node % 256) (node % 256) (ap (λ (n : ℕ). n % 256) same)))

-- and into no other
in_other : (item : Known) (bucket : ℕ) → item.node % 256 ≢ bucket → in_bucket (item ∷ []) bucket ≡ 0
in_other item bucket other = ap (λ (n : ℕ). n + 0) (cond-false (eqb (item.node % 256) bucket) 1 0 (ne_eqb (item.node % 256) bucket other))

-- one node less
pub in_without : (known : List Known) (item : Known) (value : ℤ) (bucket : ℕ) → known_at known item.node ≡ Some value
    → in_bucket known bucket ≡ in_bucket (without known item.node) bucket + in_bucket (item ∷ []) bucket
in_without [] item value bucket at = absurd (none-some value at)
in_without (k ∷ known) item value bucket at = elim (cases_eq k.node item.node) [
  | inl same ↦ grind (arith, without_first)
  | inr other ↦
      let rest : in_bucket known bucket ≡ in_bucket (without known item.node) bucket + in_bucket (item ∷ []) bucket = in_without known item value bucket (sym (known_later (k ∷ known) k known item.node refl other) ∙ at) in
      omega (arith, ap (λ ks. in_bucket ks bucket) (without_later (k ∷ known) k known item.node refl other))
]

-- a node whose bucket is empty isn't there
pub none_in : (known : List Known) (node : ℕ) → in_bucket known (node % 256) ≡ 0 → known_at known node ≡ None
none_in [] node none = refl
none_in (k ∷ known) node none = elim (cases_eq k.node node) [
  | inl same ↦ let one : in_bucket (k ∷ []) (node % 256) ≡ 1 = in_own k node same in absurd (omega arith)
  | inr other ↦ known_later (k ∷ known) k known node refl other ∙ none_in known node (omega arith)
]

-- values don't count
pub in_settled : (entries : List Entry) (known : List Known) (bucket : ℕ) → in_bucket (settled entries known) bucket ≡ in_bucket known bucket
in_settled entries [] bucket = refl
in_settled entries (k ∷ known) bucket = let rest : in_bucket (settled entries known) bucket ≡ in_bucket known bucket = in_settled entries known bucket in omega arith

pub counts_settled : (counts : List ℕ) (entries : List Entry) (known new : List Known) → new ≡ settled entries known → Counts counts known → Counts counts new
counts_settled counts entries known new is right = λ bucket count at few. right bucket count at few ∙ sym (in_settled entries known bucket) ∙ sym (ap (λ ks. in_bucket ks bucket) is)

-- the other buckets have as many as before
other_more : (known : List Known) (item : Known) (place bucket : ℕ) → place ≡ item.node % 256 → bucket ≢ place → in_bucket (known ++ item ∷ []) bucket ≡ in_bucket known bucket
other_more known item place bucket own other = grind (arith, in_more, in_other)

other_less : (known : List Known) (item : Known) (value : ℤ) (place bucket : ℕ) → known_at known item.node ≡ Some value → place ≡ item.node % 256 → bucket ≢ place
    → in_bucket (without known item.node) bucket ≡ in_bucket known bucket
other_less known item value place bucket out own other = grind (arith, in_other, in_without)

-- counts are right again once that of the one bucket is that has changed
pub counts_changed : (counts new : List ℕ) (known changed : List Known) (place made : ℕ) → place < length counts → new ≡ set counts place made
    → (made < 255 → made ≡ in_bucket changed place) → ((bucket : ℕ) → bucket ≢ place → in_bucket changed bucket ≡ in_bucket known bucket)
    → Counts counts known → Counts new changed
counts_changed counts new known changed place made within is here others right =
    grind (arith, cases_eq, get_set_other, get_set_same, same_Some)

-- a bucket that isn't counted may change
counts_past : (counts : List ℕ) (known changed : List Known) (place : ℕ) → length counts ≤ place
    → ((bucket : ℕ) → bucket ≢ place → in_bucket changed bucket ≡ in_bucket known bucket) → Counts counts known → Counts counts changed
counts_past counts known changed place past others right = grind (arith, slice_get_within)

pub counts_past_more : (counts : List ℕ) (known : List Known) (item : Known) (place : ℕ) → place ≡ item.node % 256 → length counts ≤ place → Counts counts known → Counts counts (known ++ item ∷ [])
counts_past_more counts known item place own past right =
    counts_past counts known (known ++ item ∷ []) place past (λ bucket other. other_more known item place bucket own other) right

pub counts_past_less : (counts : List ℕ) (known : List Known) (item : Known) (value : ℤ) (place : ℕ) → known_at known item.node ≡ Some value → place ≡ item.node % 256 → length counts ≤ place → Counts counts known → Counts counts (without known item.node)
counts_past_less counts known item value place out own past right =
    counts_past counts known (without known item.node) place past (λ bucket other. other_less known item value place bucket out own other) right

-- one node more is counted
pub counts_more : (counts new : List ℕ) (known : List Known) (item : Known) (place count made : ℕ) → place ≡ item.node % 256 → place < length counts → slice_get counts place ≡ Some count
    → new ≡ set counts place made → (made < 255 → (count < 255) × (made ≡ count + 1)) → Counts counts known → Counts new (known ++ item ∷ [])
counts_more counts new known item place count made own within at is one right =
    counts_changed counts new known (known ++ item ∷ []) place made within is
    (λ few. let mine : in_bucket (item ∷ []) place ≡ 1 = ap (in_bucket (item ∷ [])) own ∙ in_own item item.node refl in
    omega (arith, right place count at (one few).0, in_more known item place, (one few).1))
    (λ bucket other. other_more known item place bucket own other)
    right

-- one node less is counted
pub counts_less : (counts new : List ℕ) (known : List Known) (item : Known) (value : ℤ) (place count made : ℕ) → known_at known item.node ≡ Some value → place ≡ item.node % 256 → place < length counts
    → slice_get counts place ≡ Some count → new ≡ set counts place made → (made < 255 → (count < 255) × (made ≡ count - 1)) → Counts counts known → Counts new (without known item.node)
counts_less counts new known item value place count made out own within at is one right =
    counts_changed counts new known (without known item.node) place made within is
    (λ few. let mine : in_bucket (item ∷ []) place ≡ 1 = ap (in_bucket (item ∷ [])) own ∙ in_own item item.node refl in
    omega (arith, right place count at (one few).0, in_without known item value place out, (one few).1))
    (λ bucket other. other_less known item value place bucket out own other)
    right
