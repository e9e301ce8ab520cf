-- Sums over lists, term by term.
use Rattle.std.proofs.Common.{◌≡◌, ℕ, zero, suc, ◌+◌, ◌*◌, ◌<◌, ◌≤◌, Bool, true, false, cond, List, [], ◌∷◌, Some, refl, sym, ◌∙◌, ap, arith, zero-mul, mul-zero, add-mul, mul-add, suc-ne-zero, add-zero, zero-add, inl, inr}
use Rattle.std.proofs.lemmas.Bool.{cases_eq}
use Rattle.std.specs.Prelude.{map}
use Rattle.std.specs.List.{slice_get, sum_by}
use Rattle.std.proofs.lemmas.Option.{none-some, same_Some}
use Rattle.std.proofs.lemmas.List.Sums.{sum_by-cons, sum_by-append}
use Rattle.grove_base.specs.Numbers.{sum_below, passing_below, alone}
use Rattle.grove_base.proofs.Counting.{sum_zero}

-- terms that agree
pub sums_same : {X : Type 0} (f g : X → ℕ) (xs : List X) → ((i : ℕ) (x : X) → slice_get xs i ≡ Some x → f x ≡ g x) → sum_by f xs ≡ sum_by g xs
sums_same f g [] h = refl
sums_same f g (x ∷ xs) h =
    omega (arith, sum_by-cons f x xs, sum_by-cons g x xs, h 0 x refl, sums_same f g xs (λ i y is. h (suc i) y is))

-- terms that are nowhere greater
pub sums_le : {X : Type 0} (f g : X → ℕ) (xs : List X) → ((i : ℕ) (x : X) → slice_get xs i ≡ Some x → f x ≤ g x) → sum_by f xs ≤ sum_by g xs
sums_le f g [] h = omega arith
sums_le f g (x ∷ xs) h =
    omega (arith, sum_by-cons f x xs, sum_by-cons g x xs, h 0 x refl, sums_le f g xs (λ i y is. h (suc i) y is))

-- zeros
pub sums_zero : {X : Type 0} (f : X → ℕ) (xs : List X) → ((i : ℕ) (x : X) → slice_get xs i ≡ Some x → f x ≡ 0) → sum_by f xs ≡ 0
sums_zero f [] h = refl
sums_zero f (x ∷ xs) h = omega (arith, sum_by-cons f x xs, h 0 x refl, sums_zero f xs (λ i y is. h (suc i) y is))

-- a sum of sums
pub sums_add : {X : Type 0} (f g : X → ℕ) (xs : List X) → sum_by (λ x. f x + g x) xs ≡ sum_by f xs + sum_by g xs
sums_add f g [] = refl
sums_add f g (x ∷ xs) =
    omega (arith, sum_by-cons f x xs, sum_by-cons g x xs, sum_by-cons (λ x. f x + g x) x xs, sums_add f g xs)

-- a factor behind each term, and before it
pub sums_times : {X : Type 0} (f : X → ℕ) (c : ℕ) (xs : List X) → sum_by (λ x. f x * c) xs ≡ sum_by f xs * c
sums_times f c [] = sym (zero-mul c)
sums_times f c (x ∷ xs) = sum_by-cons (λ x. f x * c) x xs ∙ (ap (λ (s : ℕ). f x * c + s) (sums_times f c xs)
    ∙ (sym (add-mul (f x) (sum_by f xs) c) ∙ ap (λ (s : ℕ). s * c) (sym (sum_by-cons f x xs))))

-- and a factor before it
pub sums_scale : {X : Type 0} (c : ℕ) (f : X → ℕ) (xs : List X) → sum_by (λ x. c * f x) xs ≡ c * sum_by f xs
sums_scale c f [] = sym (mul-zero c)
sums_scale c f (x ∷ xs) = sum_by-cons (λ x. c * f x) x xs ∙ (ap (λ (s : ℕ). c * f x + s) (sums_scale c f xs)
    ∙ (sym (mul-add c (f x) (sum_by f xs)) ∙ ap (λ (s : ℕ). c * s) (sym (sum_by-cons f x xs))))

-- a double sum, the other way round
pub sums_swap : {X Y : Type 0} (h : X → Y → ℕ) (xs : List X) (ys : List Y) → sum_by (λ x. sum_by (λ y. h x y) ys) xs ≡ sum_by (λ y. sum_by (λ x. h x y) xs) ys
sums_swap h [] ys = sym (sums_zero (λ y. sum_by (λ x. h x y) []) ys (λ i y is. refl))
sums_swap h (x ∷ xs) ys = sum_by-cons (λ x. sum_by (λ y. h x y) ys) x xs
    ∙ (ap (λ (s : ℕ). sum_by (λ y. h x y) ys + s) (sums_swap h xs ys)
    ∙ (sym (sums_add (λ y. h x y) (λ y. sum_by (λ x. h x y) xs) ys)
    ∙ sums_same (λ y. h x y + sum_by (λ x. h x y) xs) (λ y. sum_by (λ x. h x y) (x ∷ xs)) ys (λ i y is. sym (sum_by-cons (λ x. h x y) x xs))))

-- numbers with the same successor
suc-same : (i k : ℕ) → suc i ≡ suc k → i ≡ k
suc-same i k e = omega arith

-- one term alone
pub sums_one : {X : Type 0} (f : X → ℕ) (xs : List X) (k : ℕ) (y : X) → slice_get xs k ≡ Some y
    → ((i : ℕ) (x : X) → slice_get xs i ≡ Some x → (i ≡ k → ⊥) → f x ≡ 0) → sum_by f xs ≡ f y
sums_one f [] k y there h = absurd (none-some y there)
sums_one f (x ∷ xs) zero y there h =
    let rest : sum_by f xs ≡ 0 = sums_zero f xs (λ i z is. h (suc i) z is (λ e. suc-ne-zero i e)) in
    omega (arith, sum_by-cons f x xs, ap f (same_Some x y there))
sums_one f (x ∷ xs) (suc k) y there h =
    omega (
      arith,
      sum_by-cons f x xs,
      h 0 x refl (λ e. suc-ne-zero k (sym e)),
      sums_one f xs k y there (λ i z is ne. h (suc i) z is (λ e. ne (suc-same i k e))),
    )

-- a sum over a mapped list
pub sums_map : {X Y : Type 0} (f : Y → ℕ) (g : X → Y) (xs : List X) → sum_by f (map g xs) ≡ sum_by (λ x. f (g x)) xs
sums_map f g [] = refl
sums_map f g (x ∷ xs) = sum_by-cons f (g x) (map g xs) ∙ (ap (λ (s : ℕ). f (g x) + s) (sums_map f g xs) ∙ sym (sum_by-cons (λ x. f (g x)) x xs))

-- a number listed alone, or not at all
sum_alone : (f : ℕ → ℕ) (b : Bool) (n : ℕ) → sum_by f (alone b n) ≡ cond b (f n) 0
sum_alone f true n = sum_by-cons f n [] ∙ add-zero (f n)
sum_alone f false n = refl

-- a sum over the numbers that pass
pub sums_passing : (f : ℕ → ℕ) (n : ℕ) (test : ℕ → Bool) → sum_by f (passing_below n test) ≡ sum_below n (λ k. cond (test k) (f k) 0)
sums_passing f zero test = refl
sums_passing f (suc n) test = grind (arith, sum_alone, sum_by-append, sums_passing f n test)

-- where one function is 0 below i and another one from there to j, the other's sum is its own below i and the one's
pub sum_window : (f g : ℕ → ℕ) (i j : ℕ) → ((k : ℕ) → k < i → f k ≡ 0) → ((k : ℕ) → i ≤ k → k < j → f k ≡ g k)
    → (n : ℕ) → i ≤ n → n ≤ j → sum_below i g + sum_below n f ≡ sum_below n g
sum_window f g i j before within zero le below = let e : i ≡ 0 = omega arith in rw e (zero-add 0)
sum_window f g i j before within (suc n) le below = elim (cases_eq i (suc n)) [
  | inl e ↦ omega (arith, sum_zero (suc n) f (λ k lt. before k (omega arith)), ap (λ (m : ℕ). sum_below m g) e)
  | inr ne ↦ let so_far : sum_below i g + sum_below n f ≡ sum_below n g = sum_window f g i j before within n (omega arith) (omega arith) in
      let step : f n ≡ g n = within n (omega arith) (omega arith) in omega arith
]

-- a function that is 0 from j on adds no more from there
pub sum_stops : (f : ℕ → ℕ) (j : ℕ) → ((k : ℕ) → j ≤ k → f k ≡ 0) → (n : ℕ) → j ≤ n → sum_below n f ≡ sum_below j f
sum_stops f j none zero le = let e : j ≡ 0 = omega arith in rw e refl
sum_stops f j none (suc n) le = elim (cases_eq j (suc n)) [
  | inl e ↦ rw e refl
  | inr ne ↦ let here : f n ≡ 0 = none n (omega arith) in
      let rest : sum_below n f ≡ sum_below j f = sum_stops f j none n (omega arith) in omega arith
]
