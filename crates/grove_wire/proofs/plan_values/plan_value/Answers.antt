use Rattle.std.proofs.Common.{◌≤◌, length, arith}
use Rattle.grove_wire.specs.declared.place.Part.TheVariants.{Plan}
use Rattle.grove_wire.specs.Places.{whole_of}
use Rattle.grove_wire.specs.Reading.{step_at, plan_in, items_in}
use Rattle.grove_wire.proofs.Each.{few_read}
use Rattle.grove_wire.proofs.Turns.{step_in}
use Rattle.grove_wire.specs.Writing.{step_data}
use Rattle.grove_wire.proofs.Written.{written_more, reads_more, written_all, reads_all, member_items}
use Rattle.grove_wire.proofs.plan_values.plan_value.Goals as goal

pub loop-step-preserved : goal.loop-step-preserved
loop-step-preserved c =
    let tree = c.args.tree.now in
    let within = rw c.steps-step-items.ensures.steps at c.loop-step-test.true in
    let is = rw c.steps-step-items.ensures.steps at c.step-item.is in
    record {
      value = rw c.in_ok-push.ensures.items (written_more _ c.in_ok-step_value.field-0 _ _ _ within is (step_data tree) c.loop-step.invariant.value c.in_ok-step_value.ensures.value);
      reads_back = rw c.in_ok-push.ensures.items (reads_more _ c.in_ok-step_value.field-0 _ _ _ within is (step_in tree (whole_of Plan)) c.loop-step.invariant.reads_back (λ place. c.in_ok-step_value.ensures.reads_back _));
    }

pub returns-clause-value : goal.returns-clause-value
returns-clause-value c =
    let beyond = rw c.steps-step-items.ensures.steps at c.loop-step-test.false in
    written_all c.loop-step.items _ _ (step_data c.args.tree.now) beyond c.loop-step.invariant.value

pub returns-clause-reads_back : goal.returns-clause-reads_back
unfolding plan_in items_in
returns-clause-reads_back c document is =
    let beyond = rw c.steps-step-items.ensures.steps at c.loop-step-test.false in
    let few : length c.args.plan.now ≤ 4294967295 = omega (arith, c.steps-step-items.ensures.few) in
    let read = step_in c.args.tree.now (whole_of Plan) in
    let all = reads_all c.loop-step.items _ _ read beyond c.loop-step.invariant.reads_back in
    rw (member_items _ document c.loop-step.items is)
    (few_read 4294967295 (step_at c.args.tree.now) (whole_of Plan) _ _ few all)
