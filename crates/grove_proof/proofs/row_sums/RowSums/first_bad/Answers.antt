-- The first place that fails, or none.
use Rattle.std.proofs.Common.{◌≡◌, ◌<◌, length, Some, sym, ◌∙◌, arith}
use Rattle.std.specs.List.{slice_get}
use Rattle.std.proofs.lemmas.Option.{slice_get_within}
use Rattle.grove_access.specs.Lists.{nodes_of}
use Rattle.grove_proof.specs.declared.flow.FlowRow.{FlowRow}
use Rattle.grove_proof.specs.Tables.{test_of}
use Rattle.grove_base.proofs.Lists.{item_there}
use Rattle.grove_proof.proofs.SummedRows.{bad_here}
use Rattle.grove_proof.proofs.row_sums.RowSums.first_bad.Goals as goal

pub returns-then-not-passes : goal.returns-then-not-passes
returns-then-not-passes c =
    let found : (row : FlowRow) × (slice_get c.args.self.now.rows.now c.loop-place.place ≡ Some row) = item_there c.args.self.now.rows.now c.loop-place.place c.loop-place-test.true in
    bad_here (test_of c.args.self.now.tree.now (nodes_of c.args.self.now.list.now) c.args.self.now.rows.now c.args.test) c.args.self.now.rows.now c.loop-place.place found.0 found.1
    (sym (c.passes.ensures found.0 found.1) ∙ c.if-not-passes.true) c.loop-place.invariant

pub returns : goal.returns
returns c = λ i row there. c.loop-place.invariant i row (let lt : i < length c.args.self.now.rows.now = slice_get_within c.args.self.now.rows.now i row there in omega arith) there
