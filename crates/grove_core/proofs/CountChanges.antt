-- Counts below a bound, of tests that agree, that differ at one number, or of which one passes wherever the other does.
use Rattle.std.proofs.Common.{◌≡◌, ◌≢◌, ℕ, zero, suc, ◌<◌, ◌≤◌, Bool, true, false, refl, sym, ◌∙◌, subst, inl, inr, arith}
use Rattle.std.proofs.lemmas.Bool.{cases_eq, cases_Bool, both_ways}
use Rattle.grove_base.specs.Numbers.{count_below}
use Rattle.grove_base.proofs.Counting.{count_hit, count_miss}

-- a test that nothing passes counts nothing
pub count_zero : (n : ℕ) (s : ℕ → Bool) → ((k : ℕ) → s k ≡ false) → count_below n s ≡ 0
count_zero zero s none = refl
count_zero (suc n) s none = count_miss n s (none n) ∙ count_zero n s none

-- tests that agree count the same
pub count_agree : (n : ℕ) (s t : ℕ → Bool) → ((k : ℕ) → k < n → s k ≡ t k) → count_below n s ≡ count_below n t
count_agree zero s t same = refl
count_agree (suc n) s t same =
    let rest : count_below n s ≡ count_below n t = count_agree n s t (λ k lt. same k (omega arith)) in
    elim (cases_Bool (s n)) [
      | inl y ↦ grind (arith, count_hit)
      | inr f ↦ grind (arith, count_miss)
    ]

-- a test that passes one number more counts one more
pub count_added : (n v : ℕ) (s t : ℕ → Bool) → v < n → s v ≡ false → t v ≡ true → ((k : ℕ) → v ≢ k → t k ≡ s k) → count_below n t ≡ suc (count_below n s)
count_added zero v s t lt was now others = absurd (omega arith)
count_added (suc n) v s t lt was now others = elim (cases_eq v n) [
  | inl e ↦ grind (arith, count_agree, count_hit, count_miss)
  | inr ne ↦
      let rest : count_below n t ≡ suc (count_below n s) = count_added n v s t (omega arith) was now others in
      elim (cases_Bool (s n)) [
        | inl y ↦ grind (arith, count_hit)
        | inr f ↦ grind (arith, count_miss)
      ]
]

count_wider : (n : ℕ) (s t : ℕ → Bool) → ((k : ℕ) → s k ≡ true → t k ≡ true) → count_below n s ≤ count_below n t
count_wider zero s t wider = omega arith
count_wider (suc n) s t wider = grind (arith, cases_Bool, count_hit, count_miss, count_wider n s t wider)

-- a test that passes wherever another does, and counts as many, passes nowhere else
pub count_full : (n : ℕ) (s t : ℕ → Bool) → ((k : ℕ) → s k ≡ true → t k ≡ true) → count_below n s ≡ count_below n t → (k : ℕ) → k < n → t k ≡ true → s k ≡ true
count_full zero s t wider same k lt here = absurd (omega arith)
count_full (suc n) s t wider same k lt here =
    let le : count_below n s ≤ count_below n t = count_wider n s t wider in
    elim (cases_Bool (s n)) [
      | inl y ↦
          let a : count_below (suc n) s ≡ suc (count_below n s) = count_hit n s y in
          let b : count_below (suc n) t ≡ suc (count_below n t) = count_hit n t (wider n y) in
          elim (cases_eq k n) [
            | inl e ↦ subst (λ (j : ℕ). s j ≡ true) (sym e) y
            | inr ne ↦ count_full n s t wider (omega arith) k (omega arith) here
          ]
      | inr f ↦
          let a : count_below (suc n) s ≡ count_below n s = count_miss n s f in
          elim (cases_Bool (t n)) [
            | inl y ↦ let b : count_below (suc n) t ≡ suc (count_below n t) = count_hit n t y in absurd (omega arith)
            | inr m ↦
                let b : count_below (suc n) t ≡ count_below n t = count_miss n t m in
                elim (cases_eq k n) [
                  | inl e ↦ absurd (both_ways (t k) (subst (λ (j : ℕ). t j ≡ false) (sym e) m) here)
                  | inr ne ↦ count_full n s t wider (omega arith) k (omega arith) here
                ]
          ]
    ]
