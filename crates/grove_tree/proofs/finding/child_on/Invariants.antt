use Rattle.std.proofs.Common.{ℕ, ◌<◌, List}
use Rattle.grove_tree.specs.BuiltRows.{rows_of}
use Rattle.grove_tree.specs.PathRests.{IsChildOn}
use Rattle.grove_tree.proofs.finding.child_on.Given as goal

abbrev pub invariant-loop-row : goal.invariant-loop-row
invariant-loop-row l = (child : ℕ) (rest : List ℕ) → child < l.row → ¬ IsChildOn (rows_of l.rows) l.parent l.path child rest
