-- For the proofs alone: tables that say what they are to say.
use Rattle.grove_access.specs.Lists.{nodes_of}
use Rattle.grove_proof.specs.declared.row_sums.RowSums.{RowSums}
use Rattle.grove_proof.specs.Tables.{AreSums}

abbrev pub AreRight : RowSums → Type 0
AreRight row_sums = AreSums row_sums.tree.now (nodes_of row_sums.list.now) row_sums.rows.now row_sums.visits.items
    row_sums.above.items row_sums.held.items
