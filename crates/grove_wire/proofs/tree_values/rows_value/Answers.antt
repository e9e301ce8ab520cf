use Rattle.std.proofs.Common.{◌≡◌, ◌<◌, length, FitsSigned, w64, arith}
use Rattle.std.specs.Prelude.{map, codes}
use Rattle.serde_json.specs.View.{view}
use Rattle.grove_tree.specs.Rules.{AreTreeRows}
use Rattle.grove_access.specs.Effects.{record_at}
use Rattle.grove_wire.specs.Documents.{row_data}
use Rattle.grove_wire.proofs.DocumentTexts.{document_few}
use Rattle.grove_wire.proofs.Stored.{fits_next, written_next, reads_next, stored_tree}
use Rattle.grove_wire.proofs.Written.{member_items}
use Rattle.grove_wire.proofs.tree_values.rows_value.Goals as goal

pub loop-number-preserved : goal.loop-number-preserved
loop-number-preserved c =
    let rows = c.args.tree.now in
    let records = c.args.records.now in
    let n = c.loop-number.number in
    let fit : AreTreeRows rows = (c.len-number-end.ensures.tree, c.len-number-end.ensures.limits) in
    let within : n < length rows = omega (arith, c.loop-number-test.true, c.len-number-end.ensures.number) in
    let is : view c.in_ok-row.row ≡ row_data rows records n = cc (c.in_ok-row.ensures.value, c.new.ensures) in
    let small : FitsSigned w64 (record_at records n) = rw c.new.ensures at c.in_ok-row.ensures.record in
    record {
      value = rw c.in_ok-push.ensures.items (written_next c.loop-number.items.items c.in_ok-row.row (row_data rows records) n c.loop-number.invariant.value is);
      reads_back = rw c.in_ok-push.ensures.items (reads_next rows records fit c.loop-number.items.items c.in_ok-row.row n within small is c.loop-number.invariant.reads_back);
      records = fits_next records n c.loop-number.invariant.records small;
    }

pub returns-clause-short : goal.returns-clause-short
returns-clause-short c =
    let rows = c.args.tree.now in
    let fit : AreTreeRows rows = (c.len-number-end.ensures.tree, c.len-number-end.ensures.limits) in
    let all : c.loop-number.number ≡ length rows = omega (arith, c.loop-number-test.false, c.loop-number.auto.number-end, c.len-number-end.ensures.number) in
    document_few rows c.args.records.now fit (λ node within. c.loop-number.invariant.records node (omega (arith, within, all)))

pub returns-clause-reads_back : goal.returns-clause-reads_back
returns-clause-reads_back c document is =
    let rows = c.args.tree.now in
    let fit : AreTreeRows rows = (c.len-number-end.ensures.tree, c.len-number-end.ensures.limits) in
    let all : c.loop-number.number ≡ length rows = omega (arith, c.loop-number-test.false, c.loop-number.auto.number-end, c.len-number-end.ensures.number) in
    stored_tree rows c.args.records.now c.requires.fits fit c.loop-number.number all document (map view c.loop-number.items.items) (member_items (codes "nodes") document c.loop-number.items is) c.loop-number.invariant.reads_back
