-- The sum of the rows so far.
use Rattle.grove_access.specs.Lists.{nodes_of, lengths_of}
use Rattle.grove_proof.proofs.SummedRows.{IsTotal, loss_of}
use Rattle.grove_proof.proofs.row_sums.RowSums.losses.Given as goal

abbrev pub invariant-loop-row : goal.invariant-loop-row
invariant-loop-row l = IsTotal (loss_of (nodes_of l.self.list.now) (lengths_of l.self.list.now)) l.self.rows.now l.row-index l.total
