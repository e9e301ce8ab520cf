-- A marked node is put at the end, and another isn't.
use Rattle.std.proofs.Common.{arith}
use Rattle.grove_proof.proofs.ForcedMarks.{mark_says, forced_hit, passing_miss}
use Rattle.grove_proof.proofs.span.forced_nodes.Goals as goal

pub loop-number-preserved : goal.loop-number-preserved
loop-number-preserved c = grind (arith, forced_hit, mark_says, passing_miss)
