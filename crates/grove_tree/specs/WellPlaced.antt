-- For the proofs alone: rows that are well placed.
use Rattle.std.specs.Prelude.{◌≡◌, ℕ, ◌<◌, true}
use Rattle.grove_tree.specs.Trees.{Rows}
use Rattle.grove_tree.specs.Rules.{is_well_placed}

-- the first n rows are well placed
abbrev pub AreWellPlaced : Rows → ℕ → Type 0
AreWellPlaced rows n = (row : ℕ) → row < n → is_well_placed rows row ≡ true
