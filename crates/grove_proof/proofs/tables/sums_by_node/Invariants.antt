-- The sums of the rows so far.
use Rattle.grove_proof.proofs.TablesByNode.{AreSumsSoFar}
use Rattle.grove_proof.proofs.tables.sums_by_node.Given as goal

abbrev pub invariant-loop-row : goal.invariant-loop-row
invariant-loop-row l = AreSumsSoFar l.tree l.amount l.rows l.row-index l.table.items
