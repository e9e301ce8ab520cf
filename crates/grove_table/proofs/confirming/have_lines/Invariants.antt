use Rattle.std.proofs.Common.{ℕ, ◌<◌, ◌⊎◌}
use Rattle.grove_table.specs.Tables.{IsAdded, IsOfLine}
use Rattle.grove_table.proofs.confirming.have_lines.Given as goal

abbrev pub invariant-loop-number : goal.invariant-loop-number
invariant-loop-number l = (node : ℕ) → node < l.number
    → IsOfLine l.tree l.records l.lines node ⊎ IsAdded l.absent l.tree l.records l.lines node
