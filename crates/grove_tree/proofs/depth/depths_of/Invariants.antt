use Rattle.grove_tree.specs.BuiltRows.{rows_of}
use Rattle.grove_tree.specs.Depths.{AreDepths}
use Rattle.grove_tree.proofs.depth.depths_of.Given as goal

abbrev pub invariant-loop-row : goal.invariant-loop-row
invariant-loop-row l = AreDepths (rows_of l.rows) l.row l.depths.items
