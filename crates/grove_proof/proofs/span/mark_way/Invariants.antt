-- The way below the node that is at hand is marked.
use Rattle.grove_proof.proofs.ForcedMarks.{IsOnWay}
use Rattle.grove_proof.proofs.span.mark_way.Given as goal

abbrev pub invariant-loop-top : goal.invariant-loop-top
invariant-loop-top l = IsOnWay l.tree l.top l.fn.from l.at l.fn.marks l.marks

abbrev pub decreases-loop-top : goal.decreases-loop-top
decreases-loop-top l = l.at
