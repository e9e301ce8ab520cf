-- What stands at the front of bytes is read in one way.
use Rattle.std.proofs.Common.{◌≡◌, ℕ, suc, ◌<◌, ◌≤◌, ◌^◌, List, [], ◌∷◌, ◌++◌, length, take, drop, Option, Some, None}
use Rattle.std.proofs.Common.{◌==◌, true, false, eqb-true, refl, sym, ap, ◌∙◌, append_assoc, arith}
use Rattle.std.specs.Int.{w32, w64, from_le_bytes}
use Rattle.std.specs.List.{All, flat_map}
use Rattle.std.proofs.lemmas.List.{take_at, drop_at, length-append}
use Rattle.std.proofs.lemmas.List.Elements.{All-head, All-tail, All-rest}
use Rattle.std.proofs.lemmas.Nat.{from_le_bytes-to_le_bytes_4, from_le_bytes-to_le_bytes_8}
use Rattle.grove_effects.specs.Effects.{word, half, change_bytes}
use Rattle.grove_effects.specs.Snapshots.{parent_number, named_bytes, IsNamed}

-- a place that 4 bytes hold, and a number that 8 do
abbrev pub IsChange : ℕ × ℕ → Type 0
IsChange change = (change.0 < 2 ^ 32) × (change.1 < 2 ^ 64)

-- what a test for no bytes says
pub is_nil : (bytes : List ℕ) → true ≡ (length bytes == 0) → bytes ≡ []
is_nil [] test = refl
is_nil (byte ∷ bytes) test =
    let none : suc (length bytes) ≡ 0 = eqb-true (suc (length bytes)) 0 (sym test) in absurd (omega arith)

pub some_left : (bytes : List ℕ) → false ≡ (length bytes == 0) → 0 < length bytes
some_left [] test = absurd cc
some_left (byte ∷ bytes) test = omega arith

-- fronts that are as long are one, and so is what stands behind them
pub same_front : (a b x y : List ℕ) → length a ≡ length b → a ++ x ≡ b ++ y → (a ≡ b) × (x ≡ y)
same_front a b x y long same = (
  sym (take_at a x (length b) long) ∙ ap (λ (l : List ℕ). take (length b) l) same ∙ take_at b y (length b) refl,
  sym (drop_at a x (length b) long) ∙ ap (λ (l : List ℕ). drop (length b) l) same ∙ drop_at b y (length b) refl,
)

pub half_once : (m n : ℕ) (x y : List ℕ) → m < 2 ^ 32 → n < 2 ^ 32 → half m ++ x ≡ half n ++ y → (m ≡ n) × (x ≡ y)
half_once m n x y fits fits' same =
    let front = same_front (half m) (half n) x y refl same in (
      sym (from_le_bytes-to_le_bytes_4 m fits) ∙ ap (λ (l : List ℕ). from_le_bytes w32 l) front.0
          ∙ from_le_bytes-to_le_bytes_4 n fits',
      front.1,
    )

pub word_once : (m n : ℕ) (x y : List ℕ) → m < 2 ^ 64 → n < 2 ^ 64 → word m ++ x ≡ word n ++ y → (m ≡ n) × (x ≡ y)
word_once m n x y fits fits' same =
    let front = same_front (word m) (word n) x y refl same in (
      sym (from_le_bytes-to_le_bytes_8 m fits) ∙ ap (λ (l : List ℕ). from_le_bytes w64 l) front.0
          ∙ from_le_bytes-to_le_bytes_8 n fits',
      front.1,
    )

same_pair : {A B : Type 0} (a b : A × B) → a.0 ≡ b.0 → a.1 ≡ b.1 → a ≡ b
same_pair {A} {B} a b p q = ap (λ (x : A). (x, a.1)) p ∙ ap (λ (y : B). (b.0, y)) q

pub change_once : (a b : ℕ × ℕ) (x y : List ℕ) → IsChange a → IsChange b → change_bytes a ++ x ≡ change_bytes b ++ y
    → (a ≡ b) × (x ≡ y)
change_once a b x y fits fits' same =
    let apart : half a.0 ++ (word a.1 ++ x) ≡ half b.0 ++ (word b.1 ++ y) =
    sym (append_assoc (half a.0) (word a.1) x) ∙ same ∙ append_assoc (half b.0) (word b.1) y in
    let place = half_once a.0 b.0 (word a.1 ++ x) (word b.1 ++ y) fits.0 fits'.0 apart in
    let number = word_once a.1 b.1 x y fits.1 fits'.1 place.1 in
    (same_pair a b place.0 number.0, number.1)

same_parent : (p q : Option ℕ) → parent_number p ≡ parent_number q → p ≡ q
same_parent None None same = refl
same_parent None (Some q) same = absurd (omega arith)
same_parent (Some p) None same = absurd (omega arith)
same_parent (Some p) (Some q) same = let e : p ≡ q = omega arith in ap (λ (n : ℕ). Some n) e

pub same_cons : {A : Type 0} (a b : A) (x y : List A) → a ∷ x ≡ b ∷ y → (a ≡ b) × (x ≡ y)
same_cons a b x y same = ((cc), (cc))

pub named_once : (a b : Option ℕ × List ℕ) (x y : List ℕ) → IsNamed a → IsNamed b
    → named_bytes a ++ x ≡ named_bytes b ++ y → (a ≡ b) × (x ≡ y)
named_once a b x y fits fits' same =
    let apart : half (parent_number a.0) ++ (length a.1 ∷ (a.1 ++ x)) ≡ half (parent_number b.0)
    ++ (length b.1 ∷ (b.1 ++ y)) =
    sym (append_assoc (half (parent_number a.0)) (length a.1 ∷ a.1) x) ∙ same
    ∙ append_assoc (half (parent_number b.0)) (length b.1 ∷ b.1) y in
    let parent = half_once (parent_number a.0) (parent_number b.0) (length a.1 ∷ (a.1 ++ x)) (length b.1 ∷ (b.1 ++ y))
    fits.0 fits'.0 apart in
    let behind = same_cons (length a.1) (length b.1) (a.1 ++ x) (b.1 ++ y) parent.1 in
    let name = same_front a.1 b.1 x y behind.0 behind.1 in
    (same_pair a b (same_parent a.0 b.0 parent.0) name.0, name.1)

-- ---- lists whose items are each read in one way

module _ {A : Type 0} (f : A → List ℕ) (Fits : A → Type 0)
    (once : (a b : A) (x y : List ℕ) → Fits a → Fits b → f a ++ x ≡ f b ++ y → (a ≡ b) × (x ≡ y)) where
  -- of two lists that stand at one front, the longer goes on behind the shorter
  pub fronts : (xs ys : List A) (x y : List ℕ) → All Fits xs → All Fits ys → length xs ≤ length ys
      → flat_map f xs ++ x ≡ flat_map f ys ++ y → (more : List A) × (ys ≡ xs ++ more) × (x ≡ flat_map f more ++ y)
  fronts [] ys x y fit fit' le same = (ys, refl, same)
  fronts (a ∷ xs) [] x y fit fit' le same = absurd (omega arith)
  fronts (a ∷ xs) (b ∷ ys) x y fit fit' le same =
      let apart : f a ++ (flat_map f xs ++ x) ≡ f b ++ (flat_map f ys ++ y) =
      sym (append_assoc (f a) (flat_map f xs) x) ∙ same ∙ append_assoc (f b) (flat_map f ys) y in
      let first = once a b (flat_map f xs ++ x) (flat_map f ys ++ y) (All-head Fits a xs fit) (All-head Fits b ys fit')
      apart in
      let others = fronts xs ys x y (All-tail Fits a xs fit) (All-tail Fits b ys fit') (omega arith) first.1 in
      let head : a ≡ b = first.0 in
      let tail : ys ≡ xs ++ others.0 = others.1 in
      (others.0, cc, others.2)

  module _ (some : (a : A) → 0 < length (f a)) where
    -- nothing stands for no list but the empty one
    pub none_left : (xs : List A) → flat_map f xs ≡ [] → xs ≡ []
    none_left [] none = refl
    none_left (a ∷ xs) none = absurd (omega (arith, some a, ap length none, length-append (f a) (flat_map f xs)))

    -- what stands at the front of a list is its first item
    pub first_left : (a : A) (ys : List A) (x : List ℕ) → Fits a → All Fits ys → f a ++ x ≡ flat_map f ys
        → (more : List A) × (ys ≡ a ∷ more) × (x ≡ flat_map f more)
    first_left a [] x fit fit' same = absurd (omega (arith, some a, ap length same, length-append (f a) x))
    first_left a (b ∷ ys) x fit fit' same =
        let first = once a b x (flat_map f ys) fit (All-head Fits b ys fit') same in
        let head : a ≡ b = first.0 in
        (ys, cc, first.1)

    -- two lists with the same bytes are one
    pub same_list : (xs ys : List A) → All Fits xs → All Fits ys → flat_map f xs ≡ flat_map f ys → xs ≡ ys
    same_list [] ys fit fit' same = sym (none_left ys (sym same))
    same_list (a ∷ xs) ys fit fit' same =
        let first = first_left a ys (flat_map f xs) (All-head Fits a xs fit) fit' same in
        let goes_on : ys ≡ a ∷ first.0 = first.1 in
        let fit2 : All Fits first.0 = All-rest Fits a first.0 ys goes_on fit' in
        let others : xs ≡ first.0 = same_list xs first.0 (All-tail Fits a xs fit) fit2 first.2 in
        cc
