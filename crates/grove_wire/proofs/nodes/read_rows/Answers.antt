use Rattle.std.proofs.Common.{◌≡◌, [], ◌∷◌, ◌++◌, w64, SFits, ap, ◌∙◌, sym, refl, rules, arith}
use Rattle.std.proofs.lemmas.Int.{to_z-of_z}
use Rattle.std.proofs.lemmas.List.{map_push, length_push}
use Rattle.serde_json.specs.View.{view}
use Rattle.grove_tree.specs.BuiltRows.{row_of, rows_of}
use Rattle.grove_wire.proofs.Each.{fails_as, passes_on}
use Rattle.grove_wire.proofs.Columns.{columns_begin, columns_stop, columns_end, columns_go}
use Rattle.grove_wire.proofs.Turns.{row_in}
use Rattle.grove_wire.proofs.nodes.read_rows.Goals as goal

pub loop-at-init : goal.loop-at-init
loop-at-init c = record {
  read = rw (c.new-rows.ensures.items, c.new-values.ensures.items)
      (columns_begin c.args.items.now (omega (arith, c.requires)));
  same = rw (c.new-rows.ensures.items, c.new-values.ensures.items) refl;
}

pub returns-in_err-row-clause-read : goal.returns-in_err-row-clause-read
returns-in_err-row-clause-read c =
    let fails = fails_as c.in_err-row.field-0.0 (row_in c.loop-at.at (view c.index-items-at.result)) _
    (λ refused. sym c.loop-at.invariant.read
    ∙ columns_stop (rows_of c.loop-at.rows.items) c.loop-at.values.items c.args.items.now c.loop-at.at
    c.index-items-at.result c.in_err-row.field-0.0 c.loop-at-test.true c.index-items-at.is refused)
    c.in_err-row.ensures in
    passes_on _ c.from_residual.result _ c.in_err-row.field-0.0 c.from_residual.ensures.1 fails

pub loop-at-preserved : goal.loop-at-preserved
loop-at-preserved c =
    let row = c.in_ok-row.row in
    let value = c.in_ok-row.value in
    let fits : SFits w64 value = search rules in
    let go = columns_go (rows_of c.loop-at.rows.items) c.loop-at.values.items c.args.items.now c.loop-at.at c.index-items-at.result (row_of row, value) c.loop-at-test.true c.index-items-at.is c.in_ok-row.ensures in
    let pushed : c.push-in-loop-at.new.self.items ≡ c.loop-at.values.items ++ value ∷ [] = c.in_ok-push-2.ensures.items ∙ ap (λ v. c.loop-at.values.items ++ v ∷ []) (to_z-of_z w64 value fits) in
    record {
      read = rw (c.in_ok-push.ensures.items, pushed, map_push row_of c.loop-at.rows.items row) (sym go ∙ c.loop-at.invariant.read);
      same = rw (c.in_ok-push.ensures.items, pushed, length_push c.loop-at.rows.items row, length_push c.loop-at.values.items value, c.loop-at.invariant.same) refl;
    }

pub returns-clause-read : goal.returns-clause-read
returns-clause-read c = sym c.loop-at.invariant.read ∙ columns_end (rows_of c.loop-at.rows.items) c.loop-at.values.items c.args.items.now c.loop-at.at c.loop-at-test.false
