use Rattle.std.proofs.Common.{◌++◌, ap, ◌∙◌, refl}
use Rattle.json.specs.Tree.{json_tokens}
use Rattle.serde_json.specs.Written.{outline}
use Rattle.grove_tree.specs.Trees.{Rows}
use Rattle.grove_wire.specs.Writing.{step_data}
use Rattle.grove_wire.proofs.Tokens.{one_more, all_written, array_told}
use Rattle.grove_wire.proofs.plan_texts.write_plan.Goals as goal

pub loop-step-preserved : goal.loop-step-preserved
loop-step-preserved c =
    let rows = c.args.paths.now in
    let same = c.loop-step.invariant.tree in
    let here = λ (rows : Rows).
    c.loop-step.writer.tokens ++ json_tokens (outline (step_data rows c.step-item.result)) in
    let written = c.in_ok-write_step.ensures.tokens ∙ ap here same in
    record {
      tokens = one_more (step_data rows) _ _ _ _ _ _ c.loop-step-test.true c.step-item.is
          c.loop-step.invariant.tokens written;
      before = c.in_ok-write_step.ensures.before ∙ c.loop-step.invariant.before;
      tree = c.in_ok-write_step.ensures.tree ∙ same;
    }

pub returns-clause-tokens : goal.returns-clause-tokens
returns-clause-tokens c =
    let data_of = step_data c.args.paths.now in
    array_told data_of c.args.steps.now c.args.writer.now.tokens _ _ _ refl
    (all_written data_of _ _ _ _ c.loop-step-test.false c.loop-step.invariant.tokens) c.in_ok-end_array.ensures.ok
