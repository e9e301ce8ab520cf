use Rattle.std.proofs.Common.{◌-◌, ◌≤◌, ◌↔◌}
use Rattle.grove_tree.specs.Trees.{IsAbove}
use Rattle.grove_tree.specs.BuiltRows.{rows_of}
use Rattle.grove_tree.proofs.rules.is_on_way.Given as goal

abbrev pub invariant-loop-at : goal.invariant-loop-at
invariant-loop-at l = (l.at ≤ l.fn.low) × (IsAbove (rows_of l.rows) l.high l.fn.low ↔ IsAbove (rows_of l.rows) l.high l.at)

abbrev pub decreases-loop-at : goal.decreases-loop-at
decreases-loop-at l = l.at - l.high
