use Rattle.std.proofs.Common.{ap, ◌∙◌}
use Rattle.serde_json.specs.Data.{Data}
use Rattle.serde_json.specs.Written.{compact_text}
use Rattle.grove_store.specs.Refusals.{is_refusal}
use Rattle.grove_store.proofs.Accepted.{changed_accepted}
use Rattle.grove_store.proofs.texts.changed_text.Goals as goal

pub new-requires-clause-accepted : goal.new-requires-clause-accepted
new-requires-clause-accepted c =
    ap (λ (d : Data). is_refusal (compact_text d)) c.in_ok-changed_value.ensures ∙ changed_accepted c.args.changed
