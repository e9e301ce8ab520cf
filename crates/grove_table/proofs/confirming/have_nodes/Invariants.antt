use Rattle.std.proofs.Common.{ℕ, ◌<◌}
use Rattle.grove_table.specs.Confirming.{HasNode}
use Rattle.grove_table.proofs.confirming.have_nodes.Given as goal

abbrev pub invariant-loop-place : goal.invariant-loop-place
invariant-loop-place l = (place : ℕ) → place < l.place → HasNode l.tree l.records l.lines place
