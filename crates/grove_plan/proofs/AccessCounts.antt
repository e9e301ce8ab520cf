-- Counting accesses on the way to the first step that passes a test.
use Rattle.std.proofs.Common.{◌≡◌, ℕ, ◌+◌, ◌<◌, Bool, true, false, cond, ◌⊎◌, List, length, get_or, Option, Some, None}
use Rattle.std.proofs.Common.{sym, ◌∙◌, ap, add-one, arith}
use Rattle.std.specs.List.{slice_get}
use Rattle.grove_base.specs.Numbers.{any_below, least_below}
use Rattle.grove_base.proofs.Counting.{count_hit, count_miss, any_miss}
use Rattle.grove_plan.specs.declared.step.Step.{Step}
use Rattle.grove_plan.specs.Plans.{is_access}
use Rattle.grove_plan.specs.Slots.{accesses_before}
use Rattle.grove_base.proofs.Lists.{read_at}
use Rattle.grove_plan.proofs.LeastFound.{found_first}

-- the accesses before a position are counted, and no step before it passes the test
abbrev pub IsCounted : (Option Step → Bool) → List Step → ℕ → ℕ → Type 0
IsCounted test plan position count = (count ≡ accesses_before plan position) × (any_below position (λ k. test (slice_get plan k)) ≡ false)

-- a step that fails goes on the count
pub count_on : (test : Option Step → Bool) (plan : List Step) (position count after : ℕ) (step : Step) → position < length plan → step ≡ get_or plan position step
    → test (Some step) ≡ false → IsCounted test plan position count
    → ((is_access (Some step) ≡ true) × (after ≡ count + 1)) ⊎ ((is_access (Some step) ≡ false) × (after ≡ count))
    → IsCounted test plan (position + 1) after
count_on test plan position count after step lt read fails counted more =
    grind (arith, add-one, any_miss, count_hit, count_miss, read_at)

-- a step that passes ends it
pub count_found : (test : Option Step → Bool) (plan : List Step) (position count : ℕ) (step : Step) → position < length plan → step ≡ get_or plan position step
    → test (Some step) ≡ true → IsCounted test plan position count
    → Some count ≡ cond (any_below (length plan) (λ k. test (slice_get plan k))) (Some (accesses_before plan (least_below (length plan) (λ k. test (slice_get plan k))))) None
count_found test plan position count step lt read passes counted =
    let at : slice_get plan position ≡ Some step = read_at plan position step lt read in
    ap (λ (n : ℕ). Some n) counted.0
    ∙ sym (found_first (accesses_before plan) (length plan) position (λ k. test (slice_get plan k)) lt counted.1 (ap test at ∙ passes))
