use Rattle.std.proofs.Common.{◌∙◌, ap}
use Rattle.serde_json.specs.Written.{compact_text}
use Rattle.grove_wire.specs.Writing.{flow_data}
use Rattle.grove_wire.proofs.Tokens.{value_written}
use Rattle.grove_wire.proofs.planned_texts.flow_text.Goals as goal

pub text_of-requires : goal.text_of-requires
text_of-requires c =
    c.in_ok-write_flow.ensures.before ∙ c.new-writer.ensures.before ∙ c.in_ok-with_capacity.ensures.items

pub returns-clause-text : goal.returns-clause-text
returns-clause-text c =
    let tree = c.args.paths.now in
    c.text_of.ensures
    ∙ value_written (flow_data tree c.rows-rows.result.now) _ _ c.new-writer.ensures.tokens
    c.in_ok-write_flow.ensures.tokens
    ∙ ap (λ rows. compact_text (flow_data tree rows)) c.rows-rows.ensures.rows
