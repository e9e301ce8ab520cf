use Rattle.std.proofs.Common.{◌≡◌, ◌+◌, ◌≤◌}
use Rattle.grove_tree.specs.Trees.{depth_of}
use Rattle.grove_tree.specs.BuiltRows.{rows_of}
use Rattle.grove_tree.proofs.rules.depth_of_row.Given as goal

abbrev pub invariant-loop-parent : goal.invariant-loop-parent
invariant-loop-parent l = (l.depth + l.at ≤ l.fn.row) × (l.depth + depth_of (rows_of l.rows) l.at ≡ depth_of (rows_of l.rows) l.fn.row)

abbrev pub decreases-loop-parent : goal.decreases-loop-parent
decreases-loop-parent l = l.at
