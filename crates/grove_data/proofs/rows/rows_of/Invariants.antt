use Rattle.grove_data.proofs.Counting.{AreRowsOf}
use Rattle.grove_data.proofs.rows.rows_of.Given as goal

abbrev pub invariant-loop-place : goal.invariant-loop-place
invariant-loop-place l = AreRowsOf l.names l.weights l.place l.rows.items
