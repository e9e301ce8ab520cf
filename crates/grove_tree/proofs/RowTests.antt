-- The rules of one row, as tests and as facts.
use Rattle.std.proofs.Common.{◌≡◌, ℕ, zero, suc, ◌+◌, ◌-◌, ◌<◌, ◌≤◌, ◌↔◌, Bool, true, ◌&&◌, IsTrue, List, length}
use Rattle.std.proofs.Common.{Option, Some, None, subst, get_or, arith, bytes_eq, string_bytes}
use Rattle.std.proofs.lemmas.Option.{none-some, same_Some}
use Rattle.std.proofs.lemmas.Bool.{cases_lt}
use Rattle.std.specs.Option.{is_none}
use Rattle.grove_tree.specs.Trees.{Rows, parent_of, up, IsAbove, is_at, is_above}
use Rattle.grove_tree.specs.declared.row.Row.{Row}
use Rattle.grove_tree.specs.Rules.{is_well_placed, is_on_the_way, share_parent, is_twin}
use Rattle.grove_tree.specs.BuiltRows.{rows_of}
use Rattle.grove_tree.proofs.Above.{up_le_from}
use Rattle.grove_base.proofs.Counting.{any_from, same_tests}
use Rattle.grove_tree.proofs.Tests.{is_at_from, is_above_true}
use Rattle.grove_tree.proofs.OwnRows.{own_parent, own_name}

-- what is above a row is above it by the test, where the parents up to it stand before their rows
pub is_above_within : (rows : Rows) (bound : ℕ) → ((v p : ℕ) → v < bound → parent_of rows v ≡ Some p → p < v)
    → (high low : ℕ) → low < bound → IsAbove rows high low → is_above rows high low ≡ true
is_above_within rows bound less high low under way =
    let le : high + way.0 ≤ low = up_le_from rows bound less way.0 low high under way.1 in
    any_from (suc low) (λ n. is_at high (up rows n low)) way.0 (omega arith) (is_at_from high (up rows way.0 low) way.1)

-- a row that has a parent is well placed exactly where the parent is above the row before it
pub placed_test : (rows : Rows) (row parent : ℕ) (test : Bool) → 0 < row → parent_of rows row ≡ Some parent
    → ((v p : ℕ) → v < row → parent_of rows v ≡ Some p → p < v)
    → (IsTrue test ↔ IsAbove rows parent (row - 1)) → test ≡ is_well_placed rows row
placed_test rows zero parent test some own less told = absurd (omega arith)
placed_test rows (suc before) parent test some own less told = grind (arith, is_above_true, is_above_within, same_tests)

on_the_way : (rows : Rows) (before parent : ℕ) (o : Option ℕ) → o ≡ Some parent → is_on_the_way rows before o ≡ true → is_above rows parent before ≡ true
on_the_way rows before parent None e h = absurd (none-some parent e)
on_the_way rows before parent (Some p) e h = subst (λ (q : ℕ). is_above rows q before ≡ true) (same_Some _ _ e) h

-- a well placed row's parent is above the row before it
pub placed_way : (rows : Rows) (before parent : ℕ) → is_well_placed rows (suc before) ≡ true → parent_of rows (suc before) ≡ Some parent → IsAbove rows parent before
placed_way rows before parent h own = is_above_true rows parent before (on_the_way rows before parent (parent_of rows (suc before)) own h)

no_parent : (o : Option ℕ) (parent : ℕ) → o ≡ Some parent → is_none o ≡ true → ⊥
no_parent None parent e h = none-some parent e
no_parent (Some p) parent e h = absurd (cc)

-- a well placed row's parent stands before it, where this holds of the rows before it
pub placed_less : (rows : Rows) (row : ℕ) → ((v p : ℕ) → v < row → parent_of rows v ≡ Some p → p < v)
    → is_well_placed rows row ≡ true → (parent : ℕ) → parent_of rows row ≡ Some parent → parent < row
placed_less rows zero less h parent own = absurd (no_parent (parent_of rows 0) parent own h)
placed_less rows (suc before) less h parent own =
    let way : IsAbove rows parent before = placed_way rows before parent h own in
    omega (arith, up_le_from rows (suc before) less way.0 before parent (omega arith) way.1)

-- the same up to a row
pub less_to : (rows : Rows) (row : ℕ) → ((v p : ℕ) → v < row → parent_of rows v ≡ Some p → p < v)
    → is_well_placed rows row ≡ true → (v p : ℕ) → v < suc row → parent_of rows v ≡ Some p → p < v
less_to rows row less h v p lt own = grind (arith, cases_lt, placed_less)

-- twins as the list has them
pub twin_test : (rows : List Row) (row other : ℕ) (first second : Row) → first ≡ get_or rows row first → row < length rows
    → second ≡ get_or rows other second → other < length rows
    → is_twin (rows_of rows) row other ≡ (share_parent first.parent second.parent && bytes_eq (string_bytes second.name) (string_bytes first.name))
twin_test rows row other first second is within is2 within2 = grind (arith, own_name, own_parent)
