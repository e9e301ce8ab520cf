use Rattle.std.proofs.Common.{Err, refl, ap, ◌∙◌}
use Rattle.std.proofs.lemmas.Result.{IfOk-weaker}
use Rattle.serde_json.specs.Data.{Data}
use Rattle.serde_json.specs.Written.{compact_text}
use Rattle.grove_wire.specs.Names.{proof_name}
use Rattle.grove_wire.specs.Replies.{error_data}
use Rattle.grove_store.specs.Refusals.{is_refusal}
use Rattle.grove_store.proofs.Accepted.{cost_accepted}
use Rattle.grove_store.proofs.texts.check_text.Goals as goal

pub returns-in-Err : goal.returns-in-Err
returns-in-Err c =
    IfOk-weaker c.proof_refusal.result _ _ (λ text told.
    (error_data (proof_name c.in-Err.fault), (Err c.in-Err.fault, (told.0, c.in-Err.ensures.fault told.0), refl), told.1)) c.proof_refusal.ensures

pub new-requires-clause-accepted : goal.new-requires-clause-accepted
new-requires-clause-accepted c =
    ap (λ (d : Data). is_refusal (compact_text d)) c.in_ok-cost_value-in-Ok.ensures ∙ cost_accepted c.in-Ok.cost
