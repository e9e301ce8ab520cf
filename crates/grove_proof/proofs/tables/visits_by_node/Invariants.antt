-- The visits among the accesses so far.
use Rattle.grove_access.specs.Lists.{nodes_of}
use Rattle.grove_proof.proofs.TablesByNode.{AreVisitsSoFar}
use Rattle.grove_proof.proofs.tables.visits_by_node.Given as goal

abbrev pub invariant-loop-access : goal.invariant-loop-access
invariant-loop-access l = AreVisitsSoFar l.tree (nodes_of l.list) l.access l.table.items
