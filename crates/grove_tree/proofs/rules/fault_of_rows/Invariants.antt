use Rattle.std.proofs.Common.{◌≡◌, None}
use Rattle.grove_tree.specs.Rules.{rows_fault}
use Rattle.grove_tree.specs.BuiltRows.{rows_of}
use Rattle.grove_tree.specs.RowMarks.{AreNoted}
use Rattle.grove_tree.proofs.rules.fault_of_rows.Given as goal

abbrev pub invariant-loop-row : goal.invariant-loop-row
invariant-loop-row l = (rows_fault (rows_of l.rows) l.row ≡ None) × AreNoted l.marks.words (rows_of l.rows) l.row
