-- Testing, counting, listing and adding up over the numbers below a bound.
use Rattle.std.proofs.Common.{◌≡◌, ℕ, zero, suc, ◌+◌, ◌<◌, ◌≤◌, Bool, true, false, ◌||◌, cond, [], ◌∷◌, ◌++◌, length, Some, refl, sym, ◌∙◌, ap, subst, inl, inr, arith, length-append}
use Rattle.std.specs.List.{slice_get}
use Rattle.std.proofs.lemmas.Option.{none-some, same_Some, slice_get_within}
use Rattle.std.proofs.lemmas.Bool.{cases_lt, cases_eq, cases_Bool, both_ways, or_cases, or_parts, or_from, or_left, or_right, cond-true, cond-false}
use Rattle.grove_base.specs.Numbers.{any_below, count_below, sum_below, numbers_below, alone, passing_below, least_below, last_below}
use Rattle.grove_base.proofs.Lists.{get_append_left, get_append_cases, get_last}

-- Testing

-- a number that passes shows that some number passes
pub any_from : (n : ℕ) (test : ℕ → Bool) (k : ℕ) → k < n → test k ≡ true → any_below n test ≡ true
any_from zero test k lt h = absurd (omega arith)
any_from (suc n) test k lt h = elim (cases_eq k n) [
  | inl e ↦ or_left (test n) (any_below n test) (subst (λ (m : ℕ). test m ≡ true) e h)
  | inr ne ↦ or_right (test n) (any_below n test) (any_from n test k (omega arith) h)
]

-- where some number passes, there is one
pub any_true : (n : ℕ) (test : ℕ → Bool) → any_below n test ≡ true → (k : ℕ) × (k < n) × (test k ≡ true)
any_true zero test h = absurd (cc)
any_true (suc n) test h = elim (or_cases (test n) (any_below n test) h) [
  | inl here ↦ (n, omega arith, here)
  | inr there ↦ let found : (k : ℕ) × (k < n) × (test k ≡ true) = any_true n test there in
      let lt : found.0 < n = found.1 in (found.0, omega arith, found.2)
]

-- where none passes, each fails
pub any_false : (n : ℕ) (test : ℕ → Bool) → any_below n test ≡ false → (k : ℕ) → k < n → test k ≡ false
any_false zero test h k lt = absurd (omega arith)
any_false (suc n) test h k lt =
    let parts : (test n ≡ false) × (any_below n test ≡ false) = or_parts (test n) (any_below n test) h in
    elim (cases_eq k n) [
      | inl e ↦ subst (λ (m : ℕ). test m ≡ false) (sym e) parts.0
      | inr ne ↦ any_false n test parts.1 k (omega arith)
    ]

-- where each fails, none passes
pub any_none : (n : ℕ) (test : ℕ → Bool) → ((k : ℕ) → k < n → test k ≡ false) → any_below n test ≡ false
any_none zero test h = refl
any_none (suc n) test h = or_from (test n) (any_below n test) (h n (omega arith)) (any_none n test (λ k lt. h k (omega arith)))

-- tests that follow from one another are the same
pub same_tests : (a b : Bool) → (a ≡ true → b ≡ true) → (b ≡ true → a ≡ true) → a ≡ b
same_tests true b h k = sym (h refl)
same_tests false true h k = k refl
same_tests false false h k = refl

-- a number that fails adds nothing
pub any_miss : (n : ℕ) (test : ℕ → Bool) → test n ≡ false → any_below (suc n) test ≡ any_below n test
any_miss n test miss = ap (λ (b : Bool). b || any_below n test) miss

-- Counting

-- one more number that passes
pub count_hit : (n : ℕ) (test : ℕ → Bool) → test n ≡ true → count_below (suc n) test ≡ suc (count_below n test)
count_hit n test h = let e : ◌≡◌ {A = ℕ} (cond (test n) 1 0) 1 = cond-true (test n) 1 0 h in omega arith

-- one more number that fails
pub count_miss : (n : ℕ) (test : ℕ → Bool) → test n ≡ false → count_below (suc n) test ≡ count_below n test
count_miss n test h = let e : ◌≡◌ {A = ℕ} (cond (test n) 1 0) 0 = cond-false (test n) 1 0 h in omega arith

-- a count of n numbers is at most n
pub count_le : (n : ℕ) (test : ℕ → Bool) → count_below n test ≤ n
count_le zero test = omega arith
count_le (suc n) test = let le : count_below n test ≤ n = count_le n test in elim (cases_Bool (test n)) [
  | inl h ↦ let e : count_below (suc n) test ≡ suc (count_below n test) = count_hit n test h in omega arith
  | inr h ↦ let e : count_below (suc n) test ≡ count_below n test = count_miss n test h in omega arith
]

-- a greater bound counts at least as many
pub count_mono : (m n : ℕ) (test : ℕ → Bool) → m ≤ n → count_below m test ≤ count_below n test
count_mono m zero test le = let e : m ≡ 0 = omega arith in rw e (omega arith)
count_mono m (suc n) test le = elim (cases_eq m (suc n)) [
  | inl e ↦ rw e (omega arith)
  | inr ne ↦ let less : count_below m test ≤ count_below n test = count_mono m n test (omega arith) in elim (cases_Bool (test n)) [
    | inl h ↦ let e : count_below (suc n) test ≡ suc (count_below n test) = count_hit n test h in omega arith
    | inr h ↦ let e : count_below (suc n) test ≡ count_below n test = count_miss n test h in omega arith
  ]
]

-- Least and last

-- the least number that passes
pub least_is : (n : ℕ) (test : ℕ → Bool) → any_below n test ≡ true
    → (least_below n test < n) × (test (least_below n test) ≡ true) × ((k : ℕ) → k < least_below n test → test k ≡ false)
least_is zero test h = absurd (cc)
least_is (suc n) test h = elim (cases_Bool (any_below n test)) [
  | inl some ↦ let e : least_below (suc n) test ≡ least_below n test = cond-true (any_below n test) (least_below n test) n some in
      let found : (least_below n test < n) × (test (least_below n test) ≡ true) × ((k : ℕ) → k < least_below n test → test k ≡ false) = least_is n test some in
      let lt : least_below n test < n = found.0 in
      rw e (omega arith, found.1, found.2)
  | inr none ↦ let e : least_below (suc n) test ≡ n = cond-false (any_below n test) (least_below n test) n none in
      elim (or_cases (test n) (any_below n test) h) [
        | inl here ↦ rw e (omega arith, here, any_false n test none)
        | inr some ↦ absurd (both_ways (any_below n test) none some)
      ]
]

-- a number that passes, and no smaller one, is the least
pub least_same : (n : ℕ) (test : ℕ → Bool) (k : ℕ) → k < n → test k ≡ true → ((j : ℕ) → j < k → test j ≡ false) → least_below n test ≡ k
least_same n test k lt h before =
    let found : (least_below n test < n) × (test (least_below n test) ≡ true) × ((j : ℕ) → j < least_below n test → test j ≡ false) = least_is n test (any_from n test k lt h) in
    elim (cases_eq (least_below n test) k) [
      | inl e ↦ e
      | inr ne ↦ elim (cases_lt (least_below n test) k) [
        | inl less ↦ absurd (both_ways (test (least_below n test)) (before (least_below n test) less) found.1)
        | inr more ↦ absurd (both_ways (test k) (found.2 k (omega arith)) h)
      ]
    ]

-- the last number that passes: its place is one more than the greatest number that passes
pub last_is : (n : ℕ) (test : ℕ → Bool) → any_below n test ≡ true
    → (k : ℕ) × (last_below n test ≡ suc k) × (k < n) × (test k ≡ true) × ((j : ℕ) → k < j → j < n → test j ≡ false)
last_is zero test h = absurd (cc)
last_is (suc n) test h = elim (cases_Bool (test n)) [
  | inl here ↦ (n, cond-true (test n) (suc n) (last_below n test) here, omega arith, here, λ j above below. absurd (omega arith))
  | inr miss ↦ elim (or_cases (test n) (any_below n test) h) [
    | inl here ↦ absurd (both_ways (test n) miss here)
    | inr some ↦
        let found : (k : ℕ) × (last_below n test ≡ suc k) × (k < n) × (test k ≡ true) × ((j : ℕ) → k < j → j < n → test j ≡ false) = last_is n test some in
        let lt : found.0 < n = found.2 in (
          found.0,
          cond-false (test n) (suc n) (last_below n test) miss ∙ found.1,
          omega arith,
          found.3,
          λ j above below. elim (cases_eq j n) [
            | inl e ↦ subst (λ (m : ℕ). test m ≡ false) (sym e) miss
            | inr ne ↦ found.4 j above (omega arith)
          ],
        )
  ]
]

-- Listing

-- the numbers below n are n
pub numbers_length : (n : ℕ) → length (numbers_below n) ≡ n
numbers_length zero = refl
numbers_length (suc n) = let e : length (numbers_below n) ≡ n = numbers_length n in omega (arith, length-append (numbers_below n) (n ∷ []))

-- each stands at its own place
pub numbers_get : (n i : ℕ) → i < n → slice_get (numbers_below n) i ≡ Some i
numbers_get zero i lt = absurd (omega arith)
numbers_get (suc n) i lt =
    let size : length (numbers_below n) ≡ n = numbers_length n in
    elim (cases_eq i n) [
      | inl e ↦ rw e (subst (λ (k : ℕ). slice_get (numbers_below n ++ n ∷ []) k ≡ Some n) size (get_last (numbers_below n) n))
      | inr ne ↦ get_append_left (numbers_below n) (n ∷ []) i (omega arith) ∙ numbers_get n i (omega arith)
    ]

-- and nowhere else
pub numbers_got : (n i x : ℕ) → slice_get (numbers_below n) i ≡ Some x → (x ≡ i) × (i < n)
numbers_got n i x h =
    let size : length (numbers_below n) ≡ n = numbers_length n in
    let lt : i < length (numbers_below n) = slice_get_within (numbers_below n) i x h in
    (same_Some x i (sym h ∙ numbers_get n i (omega arith)), omega arith)

-- what is listed alone passes
alone_got : (b : Bool) (n i x : ℕ) → slice_get (alone b n) i ≡ Some x → (b ≡ true) × (x ≡ n)
alone_got true n zero x h = (refl, sym (same_Some n x h))
alone_got true n (suc i) x h = absurd (none-some x h)
alone_got false n i x h = absurd (none-some x h)

-- a listed number passes
pub passing_got : (n : ℕ) (test : ℕ → Bool) (i x : ℕ) → slice_get (passing_below n test) i ≡ Some x → (x < n) × (test x ≡ true)
passing_got zero test i x h = absurd (none-some x h)
passing_got (suc n) test i x h = elim (get_append_cases (passing_below n test) (alone (test n) n) i x h) [
  | inl there ↦ let got : (x < n) × (test x ≡ true) = passing_got n test i x there in
      let lt : x < n = got.0 in (omega arith, got.1)
  | inr there ↦ let got : (test n ≡ true) × (x ≡ n) = alone_got (test n) n there.0 x there.2 in
      let e : x ≡ n = got.1 in (omega arith, subst (λ (m : ℕ). test m ≡ true) (sym e) got.0)
]

-- at most one number is listed alone
alone_once : (t : Bool) (n i j a b : ℕ) → slice_get (alone t n) i ≡ Some a → slice_get (alone t n) j ≡ Some b → i < j → ⊥
alone_once true n i zero a b h k lt = omega arith
alone_once true n i (suc j) a b h k lt = none-some b k
alone_once false n i j a b h k lt = none-some a h

-- the listed numbers ascend
pub passing_rises : (n : ℕ) (test : ℕ → Bool) (i j a b : ℕ) → i < j → slice_get (passing_below n test) i ≡ Some a → slice_get (passing_below n test) j ≡ Some b → a < b
passing_rises zero test i j a b lt h k = absurd (none-some a h)
passing_rises (suc n) test i j a b lt h k = elim (get_append_cases (passing_below n test) (alone (test n) n) j b k) [
  | inl there ↦ passing_rises n test i j a b lt
      (sym (get_append_left (passing_below n test) (alone (test n) n) i (let w : j < length (passing_below n test) = slice_get_within (passing_below n test) j b there in omega arith)) ∙ h) there
  | inr there ↦ let got : (test n ≡ true) × (b ≡ n) = alone_got (test n) n there.0 b there.2 in
      let e : b ≡ n = got.1 in
      elim (get_append_cases (passing_below n test) (alone (test n) n) i a h) [
        | inl first ↦ let less : a < n = (passing_got n test i a first).0 in omega arith
        | inr first ↦ absurd (alone_once (test n) n first.0 there.0 a b first.2 there.2 (let p : i ≡ length (passing_below n test) + first.0 = first.1 in let q : j ≡ length (passing_below n test) + there.0 = there.1 in omega arith))
      ]
]

-- a number is listed once
pub passing_once : (n : ℕ) (test : ℕ → Bool) (i j x : ℕ) → slice_get (passing_below n test) i ≡ Some x → slice_get (passing_below n test) j ≡ Some x → i ≡ j
passing_once n test i j x h k = elim (cases_eq i j) [
  | inl e ↦ e
  | inr ne ↦ elim (cases_lt i j) [
    | inl less ↦ let lt : x < x = passing_rises n test i j x x less h k in absurd (omega arith)
    | inr more ↦ let lt : x < x = passing_rises n test j i x x (omega arith) k h in absurd (omega arith)
  ]
]

-- they are few
pub passing_few : (n : ℕ) (test : ℕ → Bool) → length (passing_below n test) ≤ n
passing_few zero test = omega arith
passing_few (suc n) test = elim (cases_Bool (test n)) [
  | inl h ↦ rw h (omega (arith, passing_few n test, length-append (passing_below n test) (n ∷ [])))
  | inr h ↦ rw h (omega (arith, passing_few n test, length-append (passing_below n test) []))
]

-- Adding up

-- a sum of sums
pub sum_add : (n : ℕ) (f g : ℕ → ℕ) → sum_below n (λ k. f k + g k) ≡ sum_below n f + sum_below n g
sum_add zero f g = refl
sum_add (suc n) f g = let e : sum_below n (λ k. f k + g k) ≡ sum_below n f + sum_below n g = sum_add n f g in omega arith

-- functions that agree
pub sum_same : (n : ℕ) (f g : ℕ → ℕ) → ((k : ℕ) → k < n → f k ≡ g k) → sum_below n f ≡ sum_below n g
sum_same zero f g h = refl
sum_same (suc n) f g h = cc (h n (omega arith), sum_same n f g (λ k lt. h k (omega arith)))

-- a function that is nowhere greater
pub sum_le : (n : ℕ) (f g : ℕ → ℕ) → ((k : ℕ) → k < n → f k ≤ g k) → sum_below n f ≤ sum_below n g
sum_le zero f g h = omega arith
sum_le (suc n) f g h =
    let here : f n ≤ g n = h n (omega arith) in
    omega (arith, sum_le n f g (λ k lt. h k (omega arith)))

-- zeros
pub sum_zero : (n : ℕ) (f : ℕ → ℕ) → ((k : ℕ) → k < n → f k ≡ 0) → sum_below n f ≡ 0
sum_zero zero f h = refl
sum_zero (suc n) f h =
    let here : f n ≡ 0 = h n (omega arith) in
    omega (arith, sum_zero n f (λ k lt. h k (omega arith)))

-- a term is at most the sum
pub sum_term : (n k : ℕ) (f : ℕ → ℕ) → k < n → f k ≤ sum_below n f
sum_term zero k f lt = absurd (omega arith)
sum_term (suc n) k f lt = elim (cases_eq k n) [
  | inl e ↦ rw e (omega arith)
  | inr ne ↦ let rest : f k ≤ sum_below n f = sum_term n k f (omega arith) in omega arith
]

-- The first number apart

-- a count is that of 0 and that of the numbers after it
pub count_front : (n : ℕ) (test : ℕ → Bool) → count_below (suc n) test ≡ cond (test 0) 1 0 + count_below n (λ k. test (suc k))
count_front zero test = refl
count_front (suc n) test = let e : count_below (suc n) test ≡ cond (test 0) 1 0 + count_below n (λ k. test (suc k)) = count_front n test in omega arith
