-- The tests of a tree and what they say.
use Rattle.std.proofs.Common.{◌≡◌, ℕ, suc, ◌+◌, ◌≤◌, true, Option, Some, None, refl, ap, arith}
use Rattle.std.proofs.lemmas.Bool.{eqb-true, eq-eqb}
use Rattle.grove_tree.specs.Trees.{Rows, up, IsAbove, IsTree, is_at, is_above}
use Rattle.grove_base.proofs.Counting.{any_true, any_from}
use Rattle.grove_tree.proofs.Above.{up_le}

-- the test of a place says which node is there
pub is_at_true : (v : ℕ) (o : Option ℕ) → is_at v o ≡ true → o ≡ Some v
is_at_true v (Some w) h = ap (λ (n : ℕ). Some n) (eqb-true w v h)
is_at_true v None h = absurd (cc)

-- and what is there passes it
pub is_at_from : (v : ℕ) (o : Option ℕ) → o ≡ Some v → is_at v o ≡ true
is_at_from v o h = rw h (eq-eqb v v refl)

-- the test of being above says that a node is above another
pub is_above_true : (rows : Rows) (high low : ℕ) → is_above rows high low ≡ true → IsAbove rows high low
is_above_true rows high low h = grind (arith, any_true, is_at_true)

-- and in a tree what is above passes it
pub is_above_from : (rows : Rows) (high low : ℕ) → IsTree rows → IsAbove rows high low → is_above rows high low ≡ true
is_above_from rows high low tree h =
    let le : high + h.0 ≤ low = up_le rows tree h.0 low high h.1 in
    any_from (suc low) (λ n. is_at high (up rows n low)) h.0 (omega arith) (is_at_from high (up rows h.0 low) h.1)
