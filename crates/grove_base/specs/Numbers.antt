-- Counting, testing and adding up over the numbers below a bound.
use Rattle.std.specs.Prelude.{ℕ, zero, suc, ◌+◌, Bool, true, false, ◌||◌, List, [], ◌∷◌, ◌++◌, if◌then◌else◌}

-- some number below n passes
abbrev pub any_below : ℕ → (ℕ → Bool) → Bool
any_below zero test = false
any_below (suc n) test = test n || any_below n test

-- how many numbers below n pass
abbrev pub count_below : ℕ → (ℕ → Bool) → ℕ
count_below zero test = 0
count_below (suc n) test = (if test n then 1 else 0) + count_below n test

-- f of each number below n, added up
abbrev pub sum_below : ℕ → (ℕ → ℕ) → ℕ
sum_below zero f = 0
sum_below (suc n) f = f n + sum_below n f

-- the numbers below n, in order
abbrev pub numbers_below : ℕ → List ℕ
numbers_below zero = []
numbers_below (suc n) = numbers_below n ++ n ∷ []

-- a number alone, where it passes
abbrev pub alone : Bool → ℕ → List ℕ
alone true n = n ∷ []
alone false n = []

-- the numbers below n that pass, ascending
abbrev pub passing_below : ℕ → (ℕ → Bool) → List ℕ
passing_below zero test = []
passing_below (suc n) test = passing_below n test ++ alone (test n) n

-- the least number below n that passes, where one does
abbrev pub least_below : ℕ → (ℕ → Bool) → ℕ
least_below zero test = 0
least_below (suc n) test = if any_below n test then least_below n test else n

-- one more than the greatest number below n that passes, or 0 where none does
abbrev pub last_below : ℕ → (ℕ → Bool) → ℕ
last_below zero test = 0
last_below (suc n) test = if test n then suc n else last_below n test
