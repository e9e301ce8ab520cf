-- What the locks and releases of rows have, by their variables: at 2k and 2k + 1, and the base after them all.
use Rattle.std.proofs.Common.{◌≡◌, ℕ, zero, suc, ◌+◌, ◌*◌, List, [], ◌∷◌, length, Some, ℤ, pos, refl, ap, arith}
use Rattle.std.specs.List.{slice_get}
use Rattle.std.proofs.lemmas.Option.{none-some, same_Some}
use Rattle.grove_flow.specs.Networks.{place}
use Rattle.grove_build.specs.Networks.{pairs}

two_more : (k : ℕ) → 2 * suc k ≡ suc (suc (2 * k))
two_more k = omega arith

odd_more : (k : ℕ) → 2 * suc k + 1 ≡ suc (suc (2 * k + 1))
odd_more k = omega arith

module _ {A : Type 0} (lock release : A → ℤ) where
  pub pairs_size : (rows : List A) → length (pairs lock release rows) ≡ 2 * length rows + 1
  pairs_size [] = refl
  pairs_size (row ∷ rows) = grind (arith, pairs_size rows)

  pub pairs_lock : (rows : List A) (k : ℕ) (row : A) → slice_get rows k ≡ Some row
      → place (pairs lock release rows) (2 * k) ≡ lock row
  pairs_lock [] k row h = absurd (none-some row h)
  pairs_lock (r ∷ rows) zero row h = ap lock (same_Some r row h)
  pairs_lock (r ∷ rows) (suc k) row h = grind (arith, two_more, pairs_lock rows k row h)

  pub pairs_release : (rows : List A) (k : ℕ) (row : A) → slice_get rows k ≡ Some row
      → place (pairs lock release rows) (2 * k + 1) ≡ release row
  pairs_release [] k row h = absurd (none-some row h)
  pairs_release (r ∷ rows) zero row h = ap release (same_Some r row h)
  pairs_release (r ∷ rows) (suc k) row h = grind (arith, odd_more, pairs_release rows k row h)

  pub pairs_base : (rows : List A) → place (pairs lock release rows) (2 * length rows) ≡ pos 0
  pairs_base [] = refl
  pairs_base (row ∷ rows) = grind (arith, two_more, pairs_base rows)

  -- what holds of 0 and of what each row has
  pub pairs_each : (P : ℤ → Type 0) → P (pos 0) → (rows : List A)
      → ((k : ℕ) (row : A) → slice_get rows k ≡ Some row → P (lock row) × P (release row))
      → (v : ℕ) → P (place (pairs lock release rows) v)
  pairs_each P base [] h zero = base
  pairs_each P base [] h (suc v) = base
  pairs_each P base (row ∷ rows) h zero = (h 0 row refl).0
  pairs_each P base (row ∷ rows) h (suc zero) = (h 0 row refl).1
  pairs_each P base (row ∷ rows) h (suc (suc v)) = pairs_each P base rows (λ k r g. h (suc k) r g) v
