-- Well placed rows, one after the other.
use Rattle.std.proofs.Common.{◌≡◌, ℕ, zero, suc, ◌<◌, true, Some, arith}
use Rattle.std.proofs.lemmas.Bool.{cases_lt}
use Rattle.grove_tree.specs.Trees.{Rows, parent_of}
use Rattle.grove_tree.specs.Rules.{is_well_placed}
use Rattle.grove_tree.specs.WellPlaced.{AreWellPlaced}
use Rattle.grove_tree.proofs.RowTests.{less_to}

-- one more row that is well placed
pub placed_next : (rows : Rows) (n : ℕ) → AreWellPlaced rows n → is_well_placed rows n ≡ true
    → AreWellPlaced rows (suc n)
placed_next rows n placed here row lt = grind (arith, cases_lt)

-- the parents of well placed rows stand before them
pub placed_rising : (rows : Rows) (n : ℕ) → AreWellPlaced rows n → (v p : ℕ) → v < n → parent_of rows v ≡ Some p → p < v
placed_rising rows zero placed v p lt own = absurd (omega arith)
placed_rising rows (suc n) placed v p lt own =
    less_to rows n (placed_rising rows n (λ row low. placed row (omega arith))) (placed n (omega arith)) v p lt own
