-- Lists that rise by a key, and what stands in a list that is joined, mapped or filtered.
use Rattle.std.proofs.Common.{◌≡◌, ℕ, zero, suc, ◌+◌, ◌<◌, ◌≤◌, Bool, true, false, cond, ◌⊎◌, List, [], ◌∷◌, ◌++◌, map, filter, Some, refl, sym, ◌∙◌, ap, subst, inl, inr, arith, le_trans}
use Rattle.std.specs.List.{slice_get}
use Rattle.std.specs.Option.{option_map}
use Rattle.std.proofs.lemmas.Option.{none-some, same_Some}
use Rattle.std.proofs.lemmas.Bool.{cases_order}

-- an item stands somewhere in a list
abbrev pub Has : {A : Type 0} → List A → A → Type 0
Has xs x = (k : ℕ) × (slice_get xs k ≡ Some x)

pub has_left : {A : Type 0} (xs ys : List A) (x : A) → Has xs x → Has (xs ++ ys) x
has_left [] ys x (k, h) = absurd (none-some x h)
has_left (y ∷ xs) ys x (zero, h) = (zero, h)
has_left (y ∷ xs) ys x (suc k, h) = let r = has_left xs ys x (k, h) in (suc r.0, r.1)

pub has_right : {A : Type 0} (xs ys : List A) (x : A) → Has ys x → Has (xs ++ ys) x
has_right [] ys x h = h
has_right (y ∷ xs) ys x h = let r = has_right xs ys x h in (suc r.0, r.1)

pub has_either : {A : Type 0} (xs ys : List A) (x : A) → Has (xs ++ ys) x → Has xs x ⊎ Has ys x
has_either [] ys x h = inr h
has_either (y ∷ xs) ys x (zero, h) = inl (zero, h)
has_either (y ∷ xs) ys x (suc k, h) = elim (has_either xs ys x (k, h)) [ inl l ↦ inl (suc l.0, l.1) | inr r ↦ inr r ]

pub has_map : {A B : Type 0} (f : A → B) (xs : List A) (x : A) → Has xs x → Has (map f xs) (f x)
has_map f [] x (k, h) = absurd (none-some x h)
has_map f (y ∷ xs) x (zero, h) = (zero, ap (λ o. option_map f o) h)
has_map f (y ∷ xs) x (suc k, h) = let r = has_map f xs x (k, h) in (suc r.0, r.1)

pub has_map_from : {A B : Type 0} (f : A → B) (xs : List A) (y : B) → Has (map f xs) y → (x : A) × Has xs x × (f x ≡ y)
has_map_from f [] y (k, h) = absurd (none-some y h)
has_map_from f (x ∷ xs) y (zero, h) = (x, (zero, refl), same_Some (f x) y h)
has_map_from f (x ∷ xs) y (suc k, h) = let r = has_map_from f xs y (k, h) in (r.0, (suc (r.1).0, (r.1).1), r.2)

has_kept : {A : Type 0} (b : Bool) (y : A) (zs : List A) (x : A) → Has zs x → Has (cond b (y ∷ zs) zs) x
has_kept true y zs x h = (suc h.0, h.1)
has_kept false y zs x h = h

has_head : {A : Type 0} (b : Bool) (y : A) (zs : List A) → b ≡ true → Has (cond b (y ∷ zs) zs) y
has_head b y zs e = let P : Bool → Type 0 = λ v. Has (cond v (y ∷ zs) zs) y in subst P (sym e) (zero, refl)

-- what passes is kept
pub has_filter : {A : Type 0} (p : A → Bool) (xs : List A) (x : A) → Has xs x → p x ≡ true → Has (filter p xs) x
has_filter p [] x (k, h) e = absurd (none-some x h)
has_filter {A} p (y ∷ xs) x (zero, h) e = grind (arith, has_head, same_Some)
has_filter p (y ∷ xs) x (suc k, h) e = has_kept (p y) y (filter p xs) x (has_filter p xs x (k, h) e)

filter_step : {A R : Type 0} (b : Bool) (y x : A) (zs : List A) → (b ≡ true → y ≡ x → R) → (Has zs x → R)
    → Has (cond b (y ∷ zs) zs) x → R
filter_step true y x zs here there (zero, h) = here refl (same_Some y x h)
filter_step true y x zs here there (suc k, h) = there (k, h)
filter_step false y x zs here there h = there h

-- what is kept was there, and passes
pub has_filter_from : {A : Type 0} (p : A → Bool) (xs : List A) (x : A) → Has (filter p xs) x → Has xs x × (p x ≡ true)
has_filter_from p [] x (k, h) = absurd (none-some x h)
has_filter_from {A} p (y ∷ xs) x h =
    let R : Type 0 = Has (y ∷ xs) x × (p x ≡ true) in
    filter_step {R = R} (p y) y x (filter p xs) (λ e same. ((zero, ap (λ (v : A). Some v) same), ap p (sym same) ∙ e))
    (λ t. let r = has_filter_from p xs x t in ((suc (r.0).0, (r.0).1), r.1))
    h

-- The keys of a list rise strictly, from a bound up to below another.
abbrev pub Rises : {A : Type 0} → (A → ℕ) → ℕ → ℕ → List A → Type 0
Rises key low high [] = low ≤ high
Rises key low high (x ∷ xs) = (low ≤ key x) × Rises key (suc (key x)) high xs

pub rises_lower : {A : Type 0} (key : A → ℕ) (low lower high : ℕ) (xs : List A) → lower ≤ low → Rises key low high xs
    → Rises key lower high xs
rises_lower key low lower high [] le h = le_trans le h
rises_lower key low lower high (x ∷ xs) le h = (le_trans le h.0, h.1)

pub rises_higher : {A : Type 0} (key : A → ℕ) (low high higher : ℕ) (xs : List A) → high ≤ higher
    → Rises key low high xs → Rises key low higher xs
rises_higher key low high higher [] le h = le_trans h le
rises_higher key low high higher (x ∷ xs) le h = (h.0, rises_higher key (suc (key x)) high higher xs le h.1)

pub rises_append : {A : Type 0} (key : A → ℕ) (low mid high : ℕ) (xs ys : List A) → Rises key low mid xs
    → Rises key mid high ys → Rises key low high (xs ++ ys)
rises_append key low mid high [] ys h k = rises_lower key mid low high ys h k
rises_append key low mid high (x ∷ xs) ys h k = (h.0, rises_append key (suc (key x)) mid high xs ys h.1 k)

abbrev pub itself : ℕ → ℕ
itself n = n

rises_keep : {S : Type 0} (key : S → ℕ) (f : ℕ → S) (base low high x : ℕ) (zs : List ℕ) (b : Bool)
    → (b ≡ true → key (f x) ≡ base + x) → low ≤ x → Rises key (base + suc x) (base + high) (map f zs)
    → Rises key (base + low) (base + high) (map f (cond b (x ∷ zs) zs))
rises_keep key f base low high x zs true at le h = grind (arith, rises_lower)
rises_keep key f base low high x zs false at le h = grind (arith, rises_lower)

-- some of rising numbers, as items whose keys are these numbers added to a base
pub rises_mapped : {S : Type 0} (key : S → ℕ) (f : ℕ → S) (p : ℕ → Bool) (base low high : ℕ) (xs : List ℕ)
    → ((v : ℕ) → p v ≡ true → key (f v) ≡ base + v)
    → Rises itself low high xs → Rises key (base + low) (base + high) (map f (filter p xs))
rises_mapped key f p base low high [] at h = omega arith
rises_mapped key f p base low high (x ∷ xs) at h =
    rises_keep key f base low high x (filter p xs) (p x) (at x) h.0 (rises_mapped key f p base (suc x) high xs at h.1)

pub rises_within : {A : Type 0} (key : A → ℕ) (low high : ℕ) (xs : List A) (i : ℕ) (x : A) → Rises key low high xs
    → slice_get xs i ≡ Some x → (low ≤ key x) × (key x < high)
rises_within key low high [] i x h g = absurd (none-some x g)
rises_within key low high (y ∷ xs) zero x h g =
    let e : key y ≡ key x = ap key (same_Some y x g) in
    let lo : low ≤ key y = h.0 in
    let hi : suc (key y) ≤ high = rises_ends key (suc (key y)) high xs h.1 in
    (omega arith, omega arith)
  where
    rises_ends : {A : Type 0} (key : A → ℕ) (low high : ℕ) (xs : List A) → Rises key low high xs → low ≤ high
    rises_ends key low high [] h = h
    rises_ends key low high (x ∷ xs) h = omega (arith, rises_ends key (suc (key x)) high xs h.1, h.0)
rises_within key low high (y ∷ xs) (suc i) x h g = grind (arith, rises_within key (suc (key y)) high xs i x h.1 g)

pub rises_order : {A : Type 0} (key : A → ℕ) (low high : ℕ) (xs : List A) (i j : ℕ) (x y : A) → Rises key low high xs
    → slice_get xs i ≡ Some x → slice_get xs j ≡ Some y → i < j → key x < key y
rises_order key low high [] i j x y h g k lt = absurd (none-some x g)
rises_order key low high (z ∷ xs) i zero x y h g k lt = absurd (omega arith)
rises_order key low high (z ∷ xs) zero (suc j) x y h g k lt = grind (arith, rises_within, same_Some)
rises_order key low high (z ∷ xs) (suc i) (suc j) x y h g k lt =
    rises_order key (suc (key z)) high xs i j x y h.1 g k (omega arith)

-- where keys rise, a smaller key stands earlier
pub rises_place : {A : Type 0} (key : A → ℕ) (low high : ℕ) (xs : List A) (i j : ℕ) (x y : A) → Rises key low high xs
    → slice_get xs i ≡ Some x → slice_get xs j ≡ Some y → key x < key y → i < j
rises_place key low high xs i j x y h g k lt = grind (arith, cases_order, rises_order, same_Some)

-- and an item stands once
pub rises_once : {A : Type 0} (key : A → ℕ) (low high : ℕ) (xs : List A) (i j : ℕ) (x : A) → Rises key low high xs
    → slice_get xs i ≡ Some x → slice_get xs j ≡ Some x → i ≡ j
rises_once key low high xs i j x h g k = grind (arith, cases_order, rises_order)
