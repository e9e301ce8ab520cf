use Rattle.std.proofs.Common.{◌∙◌, ap}
use Rattle.serde_json.specs.Written.{compact_text}
use Rattle.grove_wire.specs.Writing.{plan_data}
use Rattle.grove_wire.proofs.Tokens.{value_written}
use Rattle.grove_wire.proofs.planned_texts.plan_text.Goals as goal

pub text_of-requires : goal.text_of-requires
text_of-requires c =
    c.in_ok-write_plan.ensures.before ∙ c.new-writer.ensures.before ∙ c.in_ok-with_capacity.ensures.items

pub returns-clause-text : goal.returns-clause-text
returns-clause-text c =
    let tree = c.args.paths.now in
    c.text_of.ensures
    ∙ value_written (plan_data tree c.steps-steps.result.now) _ _ c.new-writer.ensures.tokens
    c.in_ok-write_plan.ensures.tokens
    ∙ ap (λ steps. compact_text (plan_data tree steps)) c.steps-steps.ensures.steps
