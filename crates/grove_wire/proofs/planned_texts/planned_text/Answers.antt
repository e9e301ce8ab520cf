use Rattle.std.proofs.Common.{◌++◌, ap, ◌∙◌}
use Rattle.json.specs.Tree.{json_tokens}
use Rattle.json.specs.Print.{print}
use Rattle.serde_json.specs.Written.{outline, compact_text}
use Rattle.grove_tree.specs.Trees.{Rows}
use Rattle.grove_wire.specs.Replies.{planned_data}
use Rattle.grove_wire.specs.Writing.{plan_data, flow_data}
use Rattle.grove_wire.proofs.PlannedTexts.{planned_written}
use Rattle.grove_wire.proofs.planned_texts.planned_text.Goals as goal

pub returns : goal.returns
returns c =
    let tree = c.args.tree.now in
    let steps = c.steps-steps.result.now in
    let rows = c.rows-rows.result.now in
    let flowed = λ (tree : Rows). c.key.new.self.tokens ++ json_tokens (outline (flow_data tree rows)) in
    let planned = λ (tree : Rows). c.key-2.new.self.tokens ++ json_tokens (outline (plan_data tree steps)) in
    let same = c.in_ok-write_flow.ensures.tree ∙ c.in_ok-paths.ensures in
    c.into_inner.ensures.items
    ∙ ap (λ before. before ++ print c.end_object.new.self.tokens)
    (c.in_ok-end_object.ensures.room.0 ∙ c.in_ok-write_plan.ensures.before ∙ c.in_ok-key-2.ensures.room.0
    ∙ c.in_ok-write_flow.ensures.before ∙ c.in_ok-key.ensures.room.0 ∙ c.in_ok-write_count.ensures.before
    ∙ c.in_ok-begin_object.ensures.room.0 ∙ c.new-writer.ensures.before ∙ c.in_ok-with_capacity.ensures.items)
    ∙ planned_written tree c.args.cost steps rows _ _ _ _ _ _ _ _
    c.new-writer.ensures.tokens c.in_ok-begin_object.ensures.ok c.in_ok-write_count.ensures.tokens
    c.in_ok-key.ensures.ok (c.in_ok-write_flow.ensures.tokens ∙ ap flowed c.in_ok-paths.ensures)
    c.in_ok-key-2.ensures.ok (c.in_ok-write_plan.ensures.tokens ∙ ap planned same) c.in_ok-end_object.ensures.ok
    ∙ ap (λ plan. compact_text (planned_data tree c.args.cost plan rows)) c.steps-steps.ensures.steps
    ∙ ap (λ flow. compact_text (planned_data tree c.args.cost c.args.plan.now flow)) c.rows-rows.ensures.rows
