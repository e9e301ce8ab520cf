use Rattle.std.proofs.Common.{◌∙◌, ◌+◌, refl, sym, ap}
use Rattle.grove_wire.proofs.Turns.{flow_row_in}
use Rattle.grove_wire.proofs.Each.{with_front-none, each_goes, each_stops, each_ends, fails_so, passes_on}
use Rattle.grove_wire.proofs.flows.read_flow_rows.Goals as goal

pub loop-at-init : goal.loop-at-init
loop-at-init c = record {
  read = rw c.new-rows.ensures.items (with_front-none _);
  few = c.new-rows.ensures.len;
  same = refl;
}

pub returns-in_err-row-clause-read : goal.returns-in_err-row-clause-read
returns-in_err-row-clause-read c =
    let stop = sym c.loop-at.invariant.read ∙ each_stops (flow_row_in c.args.finder.now) c.loop-at.rows.items
    c.args.items.now c.loop-at.at c.index-items-at.result c.in_err-row.field-0.0 c.loop-at-test.true
    c.index-items-at.is
    (cc (c.flow_row_at.ensures.read, c.loop-at.invariant.same, c.item.ensures, c.in_err-row.was)) in
    passes_on _ c.from_residual.result _ c.in_err-row.field-0.0 c.from_residual.ensures.1
    (fails_so c.in_err-row.field-0.0 _ stop)

pub loop-at-preserved : goal.loop-at-preserved
loop-at-preserved c =
    let go = each_goes (flow_row_in c.args.finder.now) c.loop-at.rows.items c.args.items.now c.loop-at.at
    c.index-items-at.result c.in_ok-row.row c.loop-at-test.true c.index-items-at.is
    (cc (c.flow_row_at.ensures.read, c.loop-at.invariant.same, c.item.ensures, c.in_ok-row.was)) in
    record {
      read = rw c.in_ok-push.ensures.items (sym go ∙ c.loop-at.invariant.read);
      few = c.in_ok-push.ensures.len ∙ ap (λ n. n + 1) c.loop-at.invariant.few;
      same = c.flow_row_at.ensures.tree ∙ c.loop-at.invariant.same;
    }

pub returns-clause-read : goal.returns-clause-read
returns-clause-read c = sym c.loop-at.invariant.read
    ∙ each_ends (flow_row_in c.args.finder.now) _ c.args.items.now c.loop-at.at c.loop-at-test.false
