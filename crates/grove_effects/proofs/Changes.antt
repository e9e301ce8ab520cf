-- What changed from some numbers to others: in two lists that are joined, in lists that are one, and the first change.
use Rattle.std.proofs.Common.{◌≡◌, ◌⊎◌, ℕ, suc, ◌+◌, ◌<◌, ◌≤◌, ◌^◌, List, [], ◌∷◌, ◌++◌, length}
use Rattle.std.proofs.Common.{refl, sym, ap, ◌∙◌, append_assoc, append-nil, arith, inl, inr}
use Rattle.std.specs.List.{All}
use Rattle.std.proofs.lemmas.Bool.{cases_eq, eq-eqb, ne_eqb}
use Rattle.std.proofs.lemmas.List.Elements.{All-nil, All-cons, All-head, All-tail, All-same}
use Rattle.grove_effects.specs.Effects.{AreWords, change_at, changes_from}
use Rattle.grove_effects.proofs.Fronts.{IsChange, same_cons}

change_none : (p o n : ℕ) → o ≡ n → change_at p o n ≡ []
change_none p o n same = rw (eq-eqb o n same) refl

change_one : (p o n : ℕ) → (o ≡ n → ⊥) → change_at p o n ≡ (p, n) ∷ []
change_one p o n other = rw (ne_eqb o n other) refl

-- the first numbers are one, or they are the first change
changes_cons : (p o n : ℕ) (os ns : List ℕ)
    → ((o ≡ n) × (changes_from p (o ∷ os) (n ∷ ns) ≡ changes_from (suc p) os ns))
    ⊎ ((o ≡ n → ⊥) × (changes_from p (o ∷ os) (n ∷ ns) ≡ (p, n) ∷ changes_from (suc p) os ns))
changes_cons p o n os ns =
    elim (cases_eq o n) [
      | inl same ↦ inl (same, ap (λ (l : List (ℕ × ℕ)). l ++ changes_from (suc p) os ns) (change_none p o n same))
      | inr other ↦ inr (other, ap (λ (l : List (ℕ × ℕ)). l ++ changes_from (suc p) os ns) (change_one p o n other))
    ]

-- nothing changes from a list to itself
pub changes_same : (p : ℕ) (xs : List ℕ) → changes_from p xs xs ≡ []
changes_same p [] = refl
changes_same p (x ∷ xs) =
    ap (λ (l : List (ℕ × ℕ)). l ++ changes_from (suc p) xs xs) (change_none p x x refl) ∙ changes_same (suc p) xs

-- what changes in two lists that are joined
pub changes-append : (p : ℕ) (os ns xs ys : List ℕ) → length os ≡ length ns
    → changes_from p (os ++ xs) (ns ++ ys) ≡ changes_from p os ns ++ changes_from (p + length os) xs ys
changes-append p [] [] xs ys long = let place : p ≡ p + 0 = omega arith in ap (λ (q : ℕ). changes_from q xs ys) place
changes-append p [] (n ∷ ns) xs ys long = absurd (omega arith)
changes-append p (o ∷ os) [] xs ys long = absurd (omega arith)
changes-append p (o ∷ os) (n ∷ ns) xs ys long =
    let place : suc p + length os ≡ p + suc (length os) = omega arith in
    ap (λ (l : List (ℕ × ℕ)). change_at p o n ++ l) (changes-append (suc p) os ns xs ys (omega arith)
    ∙ ap (λ (q : ℕ). changes_from (suc p) os ns ++ changes_from q xs ys) place)
    ∙ sym (append_assoc (change_at p o n) (changes_from (suc p) os ns) (changes_from (p + suc (length os)) xs ys))

-- what changes with one more number, which is another one
pub changes_more : (p : ℕ) (os ns : List ℕ) (o n : ℕ) → length os ≡ length ns → (o ≡ n → ⊥)
    → changes_from p (os ++ o ∷ []) (ns ++ n ∷ []) ≡ changes_from p os ns ++ (p + length os, n) ∷ []
changes_more p os ns o n long other =
    changes-append p os ns (o ∷ []) (n ∷ []) long
    ∙ ap (λ (l : List (ℕ × ℕ)). changes_from p os ns ++ l)
    (append-nil (change_at (p + length os) o n) ∙ change_one (p + length os) o n other)

-- nothing changes where one list stands behind two others
pub changes_behind : (p : ℕ) (os ns xs : List ℕ) → length os ≡ length ns
    → changes_from p (os ++ xs) (ns ++ xs) ≡ changes_from p os ns
changes_behind p os ns xs long =
    changes-append p os ns xs xs long
    ∙ ap (λ (l : List (ℕ × ℕ)). changes_from p os ns ++ l) (changes_same (p + length os) xs)
    ∙ append-nil (changes_from p os ns)

-- each change has a place among the numbers, and a number
pub changes_fit : (p : ℕ) (os ns : List ℕ) → p + length os ≤ 2 ^ 32 → AreWords ns → All IsChange (changes_from p os ns)
changes_fit p [] ns few words = All-nil IsChange
changes_fit p (o ∷ os) [] few words = All-nil IsChange
changes_fit p (o ∷ os) (n ∷ ns) few words =
    let others = changes_fit (suc p) os ns (omega arith) (All-tail (λ x. x < 2 ^ 64) n ns words) in
    let place : p < 2 ^ 32 = omega arith in
    let number : n < 2 ^ 64 = All-head (λ x. x < 2 ^ 64) n ns words in
    elim (changes_cons p o n os ns) [
      | inl same ↦ All-same IsChange _ _ same.1 others
      | inr other ↦ All-same IsChange _ _ other.1 (All-cons IsChange (p, n) (changes_from (suc p) os ns)
          (place, number) others)
    ]

cons-nil : {A : Type 0} (a : A) (x : List A) → a ∷ x ≡ [] → ⊥
cons-nil a x same = cc

-- where nothing changed, the lists are one
pub changes_none : (p : ℕ) (os ns : List ℕ) → length os ≡ length ns → changes_from p os ns ≡ [] → os ≡ ns
changes_none p [] [] long none = refl
changes_none p [] (n ∷ ns) long none = absurd (omega arith)
changes_none p (o ∷ os) [] long none = absurd (omega arith)
changes_none p (o ∷ os) (n ∷ ns) long none =
    elim (changes_cons p o n os ns) [
      | inl same ↦
          ap (λ (m : ℕ). m ∷ os) same.0
          ∙ ap (λ (l : List ℕ). n ∷ l) (changes_none (suc p) os ns (omega arith) (sym same.1 ∙ none))
      | inr other ↦ absurd (cons-nil (p, n) (changes_from (suc p) os ns) (sym other.1 ∙ none))
    ]

-- the first change: what stands before it is the same, and there it is another number
pub record IsFirst (p : ℕ) (os ns : List ℕ) (place number : ℕ) (more : List (ℕ × ℕ)) : Type 0 where
  pub front : List ℕ
  pub there : ℕ
  pub back : List ℕ
  pub others : List ℕ
  pub before : os ≡ front ++ there ∷ back
  pub after : ns ≡ front ++ number ∷ others
  pub at : place ≡ p + length front
  pub other : there ≡ number → ⊥
  pub rest : more ≡ changes_from (suc place) back others

pub changes_first : (p : ℕ) (os ns : List ℕ) (place number : ℕ) (more : List (ℕ × ℕ))
    → changes_from p os ns ≡ (place, number) ∷ more → IsFirst p os ns place number more
changes_first p [] ns place number more is = absurd (cons-nil (place, number) more (sym is))
changes_first p (o ∷ os) [] place number more is = absurd (cons-nil (place, number) more (sym is))
changes_first p (o ∷ os) (n ∷ ns) place number more is =
    elim (changes_cons p o n os ns) [
      | inl same ↦
          let later = changes_first (suc p) os ns place number more (sym same.1 ∙ is) in
          let place_is : place ≡ suc p + length later.front = later.at in
          record {
            front = o ∷ later.front;
            there = later.there;
            back = later.back;
            others = later.others;
            before = ap (λ (l : List ℕ). o ∷ l) later.before;
            after = ap (λ (m : ℕ). m ∷ ns) (sym same.0) ∙ ap (λ (l : List ℕ). o ∷ l) later.after;
            at = omega arith;
            other = later.other;
            rest = later.rest;
          }
      | inr other ↦
          let parts = same_cons (p, n) (place, number) (changes_from (suc p) os ns) more (sym other.1 ∙ is) in
          let place_is : p ≡ place = ap (λ (x : ℕ × ℕ). x.0) parts.0 in
          let number_is : n ≡ number = ap (λ (x : ℕ × ℕ). x.1) parts.0 in
          record {
            front = [];
            there = o;
            back = os;
            others = ns;
            before = refl;
            after = ap (λ (m : ℕ). m ∷ ns) number_is;
            at = omega arith;
            other = λ e. other.0 (e ∙ sym number_is);
            rest = sym parts.1 ∙ ap (λ (q : ℕ). changes_from (suc q) os ns) place_is;
          }
    ]

not_before : (p : ℕ) (os ns : List ℕ) (number : ℕ) (more : List (ℕ × ℕ))
    → changes_from (suc p) os ns ≡ (p, number) ∷ more → ⊥
not_before p os ns number more is =
    let first = changes_first (suc p) os ns p number more is in
    let place_is : p ≡ suc p + length first.front = first.at in
    omega arith

-- what changed from a list says what it became
pub changes_once : (p : ℕ) (os xs ys : List ℕ) → length xs ≡ length os → length ys ≡ length os
    → changes_from p os xs ≡ changes_from p os ys → xs ≡ ys
changes_once p [] [] [] long long' same = refl
changes_once p [] [] (y ∷ ys) long long' same = absurd (omega arith)
changes_once p [] (x ∷ xs) ys long long' same = absurd (omega arith)
changes_once p (o ∷ os) [] ys long long' same = absurd (omega arith)
changes_once p (o ∷ os) (x ∷ xs) [] long long' same = absurd (omega arith)
changes_once p (o ∷ os) (x ∷ xs) (y ∷ ys) long long' same =
    elim (changes_cons p o x os xs) [
      | inl s ↦ elim (changes_cons p o y os ys) [
        | inl t ↦
            ap (λ (m : ℕ). m ∷ xs) (sym s.0 ∙ t.0)
            ∙ ap (λ (l : List ℕ). y ∷ l) (changes_once (suc p) os xs ys (omega arith) (omega arith)
            (sym s.1 ∙ same ∙ t.1))
        | inr t ↦ absurd (not_before p os xs y (changes_from (suc p) os ys) (sym s.1 ∙ same ∙ t.1))
      ]
      | inr s ↦ elim (changes_cons p o y os ys) [
        | inl t ↦ absurd (not_before p os ys x (changes_from (suc p) os xs) (sym t.1 ∙ sym same ∙ s.1))
        | inr t ↦
            let parts = same_cons (p, x) (p, y) (changes_from (suc p) os xs) (changes_from (suc p) os ys)
            (sym s.1 ∙ same ∙ t.1) in
            ap (λ (m : ℕ). m ∷ xs) (ap (λ (c : ℕ × ℕ). c.1) parts.0)
            ∙ ap (λ (l : List ℕ). y ∷ l) (changes_once (suc p) os xs ys (omega arith) (omega arith) parts.1)
      ]
    ]
