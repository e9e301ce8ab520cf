-- The lowest node above the nodes of the accesses so far.
use Rattle.grove_access.specs.Lists.{nodes_of}
use Rattle.grove_proof.proofs.LowestCommon.{IsLowestIn}
use Rattle.grove_proof.proofs.span.lowest_common.Given as goal

abbrev pub invariant-loop-access : goal.invariant-loop-access
invariant-loop-access l = IsLowestIn l.tree (nodes_of l.list) l.access l.lowest
