-- What is marked is forced, and the ways of the accesses so far are marked.
use Rattle.grove_access.specs.Lists.{nodes_of}
use Rattle.grove_proof.proofs.ForcedMarks.{AreWays}
use Rattle.grove_proof.proofs.span.mark_ways.Given as goal

abbrev pub invariant-loop-access : goal.invariant-loop-access
invariant-loop-access l = AreWays l.tree (nodes_of l.list) l.top l.access l.marks
