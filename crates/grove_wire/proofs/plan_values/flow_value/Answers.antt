use Rattle.std.proofs.Common.{◌≤◌, length, arith}
use Rattle.grove_wire.specs.declared.place.Part.TheVariants.{Flow}
use Rattle.grove_wire.specs.Places.{whole_of}
use Rattle.grove_wire.specs.Reading.{flow_row_at, flow_in, items_in}
use Rattle.grove_wire.proofs.Each.{few_read}
use Rattle.grove_wire.proofs.Turns.{flow_row_in}
use Rattle.grove_wire.specs.Writing.{flow_row_data}
use Rattle.grove_wire.proofs.Written.{written_more, reads_more, written_all, reads_all, member_items}
use Rattle.grove_wire.proofs.plan_values.flow_value.Goals as goal

pub loop-row-preserved : goal.loop-row-preserved
loop-row-preserved c =
    let tree = c.args.tree.now in
    let within = rw c.rows-row-items.ensures.rows at c.loop-row-test.true in
    let is = rw c.rows-row-items.ensures.rows at c.row-item.is in
    record {
      value = rw c.in_ok-push.ensures.items (written_more _ c.in_ok-flow_row_value.field-0 _ _ _ within is (flow_row_data tree) c.loop-row.invariant.value c.in_ok-flow_row_value.ensures.value);
      reads_back = rw c.in_ok-push.ensures.items (reads_more _ c.in_ok-flow_row_value.field-0 _ _ _ within is (flow_row_in tree) c.loop-row.invariant.reads_back (λ place. c.in_ok-flow_row_value.ensures.reads_back _));
    }

pub returns-clause-value : goal.returns-clause-value
returns-clause-value c =
    let beyond = rw c.rows-row-items.ensures.rows at c.loop-row-test.false in
    written_all c.loop-row.items _ _ (flow_row_data c.args.tree.now) beyond c.loop-row.invariant.value

pub returns-clause-reads_back : goal.returns-clause-reads_back
unfolding flow_in items_in
returns-clause-reads_back c document is =
    let beyond = rw c.rows-row-items.ensures.rows at c.loop-row-test.false in
    let few : length c.args.flow.now ≤ 4294967295 = omega (arith, c.rows-row-items.ensures.few) in
    let all = reads_all c.loop-row.items _ _ (flow_row_in c.args.tree.now) beyond c.loop-row.invariant.reads_back in
    rw (member_items _ document c.loop-row.items is)
    (few_read 4294967295 (flow_row_at c.args.tree.now) (whole_of Flow) _ _ few all)
