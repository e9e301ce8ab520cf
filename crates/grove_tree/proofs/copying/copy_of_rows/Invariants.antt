use Rattle.std.proofs.Common.{◌≡◌, take}
use Rattle.grove_tree.specs.BuiltRows.{rows_of}
use Rattle.grove_tree.proofs.copying.copy_of_rows.Given as goal

abbrev pub invariant-loop-row : goal.invariant-loop-row
invariant-loop-row l = rows_of l.copies.items ≡ rows_of (take l.row-index l.rows)
