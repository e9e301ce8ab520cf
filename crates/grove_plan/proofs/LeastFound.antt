-- The least number below a bound that passes: tests that agree have one, and a loop finds it.
use Rattle.std.proofs.Common.{◌≡◌, ℕ, zero, suc, ◌<◌, Bool, true, false, cond, Some, None, refl, ◌∙◌, ap, arith}
use Rattle.std.proofs.lemmas.Bool.{cond-true}
use Rattle.grove_base.specs.Numbers.{any_below, least_below}
use Rattle.grove_base.proofs.Counting.{any_from, any_false, least_same}

-- tests that agree
pub any_same : (n : ℕ) (s t : ℕ → Bool) → ((k : ℕ) → k < n → s k ≡ t k) → any_below n s ≡ any_below n t
any_same zero s t h = refl
any_same (suc n) s t h = cc (h n (omega arith), any_same n s t (λ k lt. h k (omega arith)))

-- tests that agree have the same least number
pub least_agrees : (n : ℕ) (s t : ℕ → Bool) → ((k : ℕ) → k < n → s k ≡ t k) → least_below n s ≡ least_below n t
least_agrees zero s t h = refl
least_agrees (suc n) s t h =
    let e : any_below n s ≡ any_below n t = any_same n s t (λ k lt. h k (omega arith)) in
    let f : least_below n s ≡ least_below n t = least_agrees n s t (λ k lt. h k (omega arith)) in
    cc

-- a number that passes where none before it does is the least, and so is what is made of it
pub found_first : (f : ℕ → ℕ) (n k : ℕ) (test : ℕ → Bool) → k < n → any_below k test ≡ false → test k ≡ true
    → cond (any_below n test) (Some (f (least_below n test))) None ≡ Some (f k)
found_first f n k test lt before here =
    cond-true (any_below n test) (Some (f (least_below n test))) None (any_from n test k lt here)
    ∙ ap (λ (j : ℕ). Some (f j)) (least_same n test k lt here (any_false k test before))
