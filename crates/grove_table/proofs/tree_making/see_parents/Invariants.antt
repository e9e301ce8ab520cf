use Rattle.std.proofs.Common.{◌<◌, ℕ}
use Rattle.grove_table.specs.Refusals.{IsOrphan}
use Rattle.grove_table.proofs.tree_making.see_parents.Given as goal

abbrev pub invariant-loop-place : goal.invariant-loop-place
invariant-loop-place l = (before : ℕ) → before < l.place → IsOrphan l.lines before → ⊥
