use Rattle.std.proofs.Common.{sym, ◌∙◌, add-one, arith}
use Rattle.grove_tree.specs.Rules.{is_twin}
use Rattle.grove_tree.specs.BuiltRows.{rows_of}
use Rattle.grove_base.proofs.Counting.{any_from}
use Rattle.grove_tree.proofs.RowTests.{twin_test}
use Rattle.grove_tree.proofs.rules.has_twin.Goals as goal

pub returns-then-are_twins : goal.returns-then-are_twins
returns-then-are_twins c =
    let test = twin_test c.args.rows.now c.args.row c.loop-other.other _ _ c.index-rows-row.is c.requires c.index-rows-other.is (omega arith) in
    sym (any_from c.args.row (is_twin (rows_of c.args.rows.now) c.args.row) c.loop-other.other c.loop-other-test.true
    (test ∙ sym c.are_twins.ensures ∙ c.if-are_twins.true))

pub loop-other-preserved : goal.loop-other-preserved
loop-other-preserved c = grind (arith, add-one, twin_test)
