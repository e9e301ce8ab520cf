-- The rows so far pass.
use Rattle.std.proofs.Common.{◌≡◌, ℕ, ◌<◌, true, Some}
use Rattle.std.specs.List.{slice_get}
use Rattle.grove_access.specs.Lists.{nodes_of}
use Rattle.grove_proof.specs.declared.flow.FlowRow.{FlowRow}
use Rattle.grove_proof.specs.Tables.{test_of}
use Rattle.grove_proof.proofs.row_sums.RowSums.first_bad.Given as goal

abbrev pub invariant-loop-place : goal.invariant-loop-place
invariant-loop-place l = (j : ℕ) (row : FlowRow) → j < l.place → slice_get l.self.rows.now j ≡ Some row
    → test_of l.self.tree.now (nodes_of l.self.list.now) l.self.rows.now l.test row ≡ true
