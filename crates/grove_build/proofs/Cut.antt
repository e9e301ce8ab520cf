-- What an arc asks of the places, and that it stays lawful where a rising function that keeps the slots between accesses
-- is put on each place.
use Rattle.std.proofs.Common.{◌≡◌, ℕ, zero, suc, ◌+◌, ◌*◌, ◌<◌, ◌≤◌, ◌⊎◌, true, false, List, [], ◌∷◌, map, Some, ℤ, pos}
use Rattle.std.proofs.Common.{neg_ℤ, ◌+ℤ◌, ◌≤ℤ◌, ◌<ℤ◌, int_lt, int_le, if◌then◌else◌, refl, sym, ◌∙◌, ap, inl, inr}
use Rattle.std.proofs.Common.{arith}
use Rattle.std.proofs.lemmas.Int.{ints}
use Rattle.std.proofs.lemmas.Bool.{cases_Bool, cases_order, cond-true, cond-false}
use Rattle.grove_span.specs.declared.row.SpanRow.{SpanRow}
use Rattle.grove_flow.specs.Networks.{place, IsLawful}
use Rattle.grove_build.specs.declared.kinds.Kind.{Kind}
use Rattle.grove_build.specs.declared.kinds.Kind.TheVariants.{Above, Held, First, Last, Own}
use Rattle.grove_build.specs.Networks.{bound, arc_to, lowered}

-- What an arc of the row at place k asks: one place, or number of slots, is no later than another.

abbrev pub early : List ℤ → ℕ → Kind → ℕ → ℤ
early places k Above parent = place places (2 * parent)
early places k Held parent = place places (2 * k)
early places k First from = place places (2 * k)
early places k Last until = pos until
early places k Own none = place places (2 * k)

abbrev pub late : List ℤ → ℕ → Kind → ℕ → ℤ
late places k Above parent = place places (2 * k)
late places k Held parent = place places (2 * parent + 1)
late places k First from = pos from
late places k Last until = place places (2 * k + 1)
late places k Own none = place places (2 * k + 1)

-- the one is no later than the other, and at the same place where an amount is sent
pub record Meets (amount : ℕ) (low high : ℤ) : Type 0 where
  pub met : low ≤ℤ high
  pub tight : 0 < amount → low ≡ high

level_difference : (x y : ℤ) → (x +ℤ pos 0) +ℤ y ≡ y +ℤ x
level_difference x y = omega (arith, ints)

before_difference : (x b : ℤ) (f : ℕ) → b ≡ pos 0 → (x +ℤ neg_ℤ (pos f)) +ℤ pos f ≡ b +ℤ x
before_difference x b f e = omega (arith, ints)

after_difference : (b y : ℤ) (l : ℕ) → b ≡ pos 0 → (b +ℤ pos l) +ℤ y ≡ y +ℤ pos l
after_difference b y l e = omega (arith, ints)

-- both differ by as much as the ends of the arc with what it asks for
same_difference : (base k : ℕ) (places : List ℤ) → place places base ≡ pos 0 → (kind : Kind) (x : ℕ)
    → (place places (arc_to base k kind x).from +ℤ (arc_to base k kind x).least) +ℤ late places k kind x
    ≡ place places (arc_to base k kind x).to +ℤ early places k kind x
same_difference base k places zero_base Above x = level_difference (place places (2 * x)) (place places (2 * k))
same_difference base k places zero_base Held x = level_difference (place places (2 * k)) (place places (2 * x + 1))
same_difference base k places zero_base First x = before_difference (place places (2 * k)) (place places base) x zero_base
same_difference base k places zero_base Last x = after_difference (place places base) (place places (2 * k + 1)) x zero_base
same_difference base k places zero_base Own x = level_difference (place places (2 * k)) (place places (2 * k + 1))

le_across : (a b low high : ℤ) → a +ℤ high ≡ b +ℤ low → a ≤ℤ b → low ≤ℤ high
le_across a b low high e h = omega (arith, ints)

same_across : (a b low high : ℤ) → a +ℤ high ≡ b +ℤ low → a ≡ b → low ≡ high
same_across a b low high e h = omega (arith, ints)

le_back : (a b low high : ℤ) → a +ℤ high ≡ b +ℤ low → low ≤ℤ high → a ≤ℤ b
le_back a b low high e h = omega (arith, ints)

same_back : (a b low high : ℤ) → a +ℤ high ≡ b +ℤ low → low ≡ high → a ≡ b
same_back a b low high e h = omega (arith, ints)

module _ (base k : ℕ) (places : List ℤ) (zero_base : place places base ≡ pos 0) (kind : Kind) (x amount : ℕ) where
  pub lawful_meets : IsLawful (arc_to base k kind x) amount places → Meets amount (early places k kind x) (late places k kind x)
  lawful_meets h = grind (arith, le_across, same_across, same_difference)

  pub meets_lawful : Meets amount (early places k kind x) (late places k kind x) → IsLawful (arc_to base k kind x) amount places
  meets_lawful h = grind (arith, le_back, same_back, same_difference)

-- the slots that bound a row are among some
pub record IsRowOn (on : ℕ → Type 0) (row : SpanRow) : Type 0 where
  pub first : (f : ℕ) → row.from ≡ Some f → on f
  pub last : (l : ℕ) → row.until ≡ Some l → on l

pub place_map : (f : ℤ → ℤ) (places : List ℤ) (v : ℕ) → f (pos 0) ≡ pos 0 → place (map f places) v ≡ f (place places v)
place_map f [] v e = sym e
place_map f (x ∷ xs) zero e = refl
place_map f (x ∷ xs) (suc v) e = place_map f xs v e

module _ (f : ℤ → ℤ) (on : ℕ → Type 0) (rising : (a b : ℤ) → a ≤ℤ b → f a ≤ℤ f b)
    (keeps : (a : ℕ) → on a → f (pos a) ≡ pos a) (zero_on : on 0) (places : List ℤ) where
  at : (v : ℕ) → place (map f places) v ≡ f (place places v)
  at v = place_map f places v (keeps 0 zero_on)

  early_cut : (k : ℕ) (row : SpanRow) → IsRowOn on row → (kind : Kind) (x : ℕ) → bound row kind ≡ Some x
      → f (early places k kind x) ≡ early (map f places) k kind x
  early_cut k row row_on Above x e = sym (at (2 * x))
  early_cut k row row_on Held x e = sym (at (2 * k))
  early_cut k row row_on First x e = sym (at (2 * k))
  early_cut k row row_on Last x e = keeps x (row_on.last x e)
  early_cut k row row_on Own x e = sym (at (2 * k))

  late_cut : (k : ℕ) (row : SpanRow) → IsRowOn on row → (kind : Kind) (x : ℕ) → bound row kind ≡ Some x
      → f (late places k kind x) ≡ late (map f places) k kind x
  late_cut k row row_on Above x e = sym (at (2 * k))
  late_cut k row row_on Held x e = sym (at (2 * x + 1))
  late_cut k row row_on First x e = keeps x (row_on.first x e)
  late_cut k row row_on Last x e = sym (at (2 * k + 1))
  late_cut k row row_on Own x e = sym (at (2 * k + 1))

  module _ (base : ℕ) (at_base : place places base ≡ pos 0) where
    pub base_stays : place (map f places) base ≡ pos 0
    base_stays = at base ∙ (ap f at_base ∙ keeps 0 zero_on)

    -- an arc stays lawful
    pub arc_cut : (k : ℕ) (row : SpanRow) → IsRowOn on row → (kind : Kind) (x : ℕ) → bound row kind ≡ Some x → (amount : ℕ)
        → IsLawful (arc_to base k kind x) amount places → IsLawful (arc_to base k kind x) amount (map f places)
    arc_cut k row row_on kind x e amount h =
        let m = lawful_meets base k places at_base kind x amount h in
        let low = early_cut k row row_on kind x e in
        let high = late_cut k row row_on kind x e in
        meets_lawful base k (map f places) base_stays kind x amount record {
          met = grind (arith);
          tight = λ some. sym low ∙ (ap f (m.tight some) ∙ high);
        }

-- the two functions: what is above the top is lowered to it, and what is between two slots is raised to the later one

-- the least of the first slots that a place doesn't come after, or the last of them
abbrev pub raised : (ℕ → ℕ) → ℕ → ℤ → ℤ
raised slots zero z = pos (slots zero)
raised slots (suc i) z = if int_le z (pos (slots i)) then raised slots i z else pos (slots (suc i))

raise_case : (slots : ℕ → ℕ) (i : ℕ) (z : ℤ) → ((z ≤ℤ pos (slots i)) × (raised slots (suc i) z ≡ raised slots i z))
    ⊎ ((pos (slots i) <ℤ z) × (raised slots (suc i) z ≡ pos (slots (suc i))))
raise_case slots i z = grind (arith, cases_Bool, cond-false, cond-true, ints)

module _ (slots : ℕ → ℕ) (rise : (i : ℕ) → slots i ≤ slots (suc i)) where
  -- it is one of them
  pub raised_is : (n : ℕ) (z : ℤ) → (i : ℕ) × (i ≤ n) × (raised slots n z ≡ pos (slots i))
  raised_is zero z = (0, omega arith, refl)
  raised_is (suc n) z = elim (raise_case slots n z) [
    | inl low ↦ let r = raised_is n z in let le : r.0 ≤ n = r.1 in (r.0, omega arith, low.1 ∙ r.2)
    | inr high ↦ (suc n, omega arith, high.1)
  ]

  -- no greater than the last
  pub raised_most : (n : ℕ) (z : ℤ) → raised slots n z ≤ℤ pos (slots n)
  raised_most zero z = omega (arith, ints)
  raised_most (suc n) z = grind (arith, ints, raise_case, raised_most n z)

  -- and no less than the place, where that isn't past the last
  pub raised_least : (n : ℕ) (z : ℤ) → z ≤ℤ pos (slots n) → z ≤ℤ raised slots n z
  raised_least zero z le = le
  raised_least (suc n) z le = elim (raise_case slots n z) [
    | inl low ↦ let e = low.1 in let least : z ≤ℤ raised slots n z = raised_least n z low.0 in omega (arith, ints)
    | inr high ↦ let e = high.1 in omega (arith, ints)
  ]

  pub raised_rises : (n : ℕ) (a b : ℤ) → a ≤ℤ b → raised slots n a ≤ℤ raised slots n b
  raised_rises zero a b le = omega (arith, ints)
  raised_rises (suc n) a b le = grind (arith, ints, raise_case, raised_most, raised_rises n a b le)

  -- slots stay where they are
  pub raised_keeps : (n i : ℕ) → i ≤ n → raised slots n (pos (slots i)) ≡ pos (slots i)
  raised_keeps zero i le = let e : i ≡ 0 = omega arith in ap (λ (k : ℕ). pos (slots k)) (sym e)
  raised_keeps (suc n) i le = elim (raise_case slots n (pos (slots i))) [
    | inl low ↦ elim (cases_order i (suc n)) [
      | inl e ↦
          let f = low.1 in
          omega (arith, ints, raised_most n (pos (slots i)), raised_least n (pos (slots i)) low.0, rise n, ap slots e)
      | inr ne ↦ elim ne [
        | inl lt ↦ low.1 ∙ raised_keeps n i (omega arith)
        | inr gt ↦ absurd (omega arith)
      ]
    ]
    | inr high ↦ elim (cases_order i (suc n)) [
      | inl e ↦ high.1 ∙ ap (λ (k : ℕ). pos (slots k)) (sym e)
      | inr ne ↦ elim ne [
        | inl lt ↦ let up : slots i ≤ slots n = rise_far i n (omega arith) in let past = high.0 in absurd (omega (arith, ints))
        | inr gt ↦ absurd (omega arith)
      ]
    ]
  ]
    where
      rise_far : (i n : ℕ) → i ≤ n → slots i ≤ slots n
      rise_far i zero le = let e : i ≡ 0 = omega arith in rw e (omega arith)
      rise_far i (suc n) le = elim (cases_order i (suc n)) [
        | inl e ↦ rw e (omega arith)
        | inr ne ↦ elim ne [
          | inl lt ↦ let before : slots i ≤ slots n = rise_far i n (omega arith) in let up : slots n ≤ slots (suc n) = rise n in omega arith
          | inr gt ↦ absurd (omega arith)
        ]
      ]

lower_case : (top : ℕ) (z : ℤ) → ((int_lt (pos top) z ≡ true) × (pos (suc top) ≤ℤ z)
    × (lowered (pos top) z ≡ pos top)) ⊎ ((int_lt (pos top) z ≡ false) × (z ≤ℤ pos top) × (lowered (pos top) z ≡ z))
lower_case top z = grind (arith, cases_Bool, cond-false, cond-true, ints)

pub lowered_rises : (top : ℕ) (a b : ℤ) → a ≤ℤ b → lowered (pos top) a ≤ℤ lowered (pos top) b
lowered_rises top a b h = grind (arith, ints, lower_case)

pub lowered_keeps : (top a : ℕ) → a ≤ top → lowered (pos top) (pos a) ≡ pos a
lowered_keeps top a le = grind (arith, ints, lower_case)

pub lowered_most : (top : ℕ) (z : ℤ) → lowered (pos top) z ≤ℤ pos top
lowered_most top z = grind (arith, ints, lower_case)

pub lowered_more : (top : ℕ) (z : ℤ) → pos top <ℤ z → lowered (pos top) z ≡ pos top
lowered_more top z h = grind (arith, ints, lower_case)

pub lowered_less : (top : ℕ) (z : ℤ) → z ≤ℤ pos top → lowered (pos top) z ≡ z
lowered_less top z h = grind (arith, ints, lower_case)
