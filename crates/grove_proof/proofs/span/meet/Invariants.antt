-- What is above both nodes stays the same.
use Rattle.std.proofs.Common.{◌+◌}
use Rattle.grove_proof.proofs.LowestCommon.{IsSameMeet}
use Rattle.grove_proof.proofs.span.meet.Given as goal

abbrev pub invariant-loop-right : goal.invariant-loop-right
invariant-loop-right l = IsSameMeet l.tree l.fn.first l.fn.second l.left l.right

abbrev pub decreases-loop-right : goal.decreases-loop-right
decreases-loop-right l = l.left + l.right
