use Rattle.std.proofs.Common.{◌≡◌, false}
use Rattle.grove_base.specs.Numbers.{any_below}
use Rattle.grove_tree.specs.Rules.{is_twin}
use Rattle.grove_tree.specs.BuiltRows.{rows_of}
use Rattle.grove_tree.proofs.rules.has_twin.Given as goal

abbrev pub invariant-loop-other : goal.invariant-loop-other
invariant-loop-other l = any_below l.other (is_twin (rows_of l.rows) l.fn.row) ≡ false
