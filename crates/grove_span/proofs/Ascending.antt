-- The accessed nodes, sorted.
use Rattle.std.proofs.Common.{◌≡◌, ℕ, ◌≤◌, List, get_or, Some, subst, slice_get}
use Rattle.std.specs.Prelude.{Contains}
use Rattle.std.specs.List.Sorted.{IsPermutation, IsSorted, IsNonDecreasingBy}
use Rattle.std.specs.Ordering.{nat_cmp}
use Rattle.std.proofs.lemmas.List.Sorted.{Contains-permutation, IsPermutation-sym, IsNonDecreasingBy-from_sort}
use Rattle.std.proofs.lemmas.Option.{slice_get-get_or, slice_get_within, get_or_from_slice_get}
use Rattle.grove_span.specs.Ways.{AreAscending}

-- what a list contains stands somewhere in it
contains_at : (xs : List ℕ) (x : ℕ) → Contains xs x → (i : ℕ) × (slice_get xs i ≡ Some x)
contains_at xs x (i, lt, is) = (i, subst (λ (y : ℕ). slice_get xs i ≡ Some y) is (slice_get-get_or xs i x lt))

-- and what stands somewhere is contained
at_contains : (xs : List ℕ) (x i : ℕ) → slice_get xs i ≡ Some x → Contains xs x
at_contains xs x i at = (i, slice_get_within xs i x at, get_or_from_slice_get xs i x x at)

-- a list's items in another order
moved : (xs ys : List ℕ) → IsPermutation xs ys → (i x : ℕ) → slice_get xs i ≡ Some x → (j : ℕ) × (slice_get ys j ≡ Some x)
moved xs ys same i x at = contains_at ys x (Contains-permutation xs ys x same (at_contains xs x i at))

-- numbers that were sorted ascend, and are those that were there
pub sorted_ascends : (nodes items targets : List ℕ) → items ≡ nodes → IsPermutation items targets → IsSorted nat_cmp targets → AreAscending nodes targets
sorted_ascends nodes items targets all same sorted =
    let those : IsPermutation nodes targets = subst (λ (xs : List ℕ). IsPermutation xs targets) all same in
    let rises : IsNonDecreasingBy (λ x. x) targets = IsNonDecreasingBy-from_sort (λ x. x) targets sorted in
    record {
      named = λ i target at. moved targets nodes (IsPermutation-sym nodes targets those) i target at;
      all = λ access target at. moved nodes targets those access target at;
      rising = λ i j first second le here there.
          let lt = slice_get_within targets j second there in
          let a = get_or_from_slice_get targets i first first here in
          let b = get_or_from_slice_get targets j second first there in
          subst (λ (x : ℕ). x ≤ second) a (subst (λ (y : ℕ). get_or targets i first ≤ y) b (rises i j first le lt));
    }
