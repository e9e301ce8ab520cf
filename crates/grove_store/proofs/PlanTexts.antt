-- A text that tells the plan of a list tells that of each list with its nodes and lengths, and is no refusal.
use Rattle.std.proofs.Common.{◌≡◌, ℕ, false, List, Some, refl, sym, ◌∙◌, ap, subst}
use Rattle.std.specs.Prelude.{All, slice_get}
use Rattle.std.proofs.lemmas.Option.{slice_get_within, get_or_from_slice_get}
use Rattle.serde_json.specs.Written.{compact_text}
use Rattle.grove_tree.specs.Trees.{Rows}
use Rattle.grove_access.specs.declared.access.Access.{Access}
use Rattle.grove_build.specs.declared.targets.Target.{Target}
use Rattle.grove_build.specs.declared.planning.Planned.{Planned}
use Rattle.grove_build.specs.Batches.{IsPlanned}
use Rattle.grove_build.specs.Keeping.{AreTargetsOf}
use Rattle.grove_wire.specs.Replies.{planned_data}
use Rattle.grove_build.proofs.Keeping.{planned_same}
use Rattle.grove_store.specs.Alone.{TellsPlan}
use Rattle.grove_store.specs.Parts.{IsTextOfReply}
use Rattle.grove_store.specs.Refusals.{is_refusal}
use Rattle.grove_store.specs.KeptTexts.{KeptText, kept_text, RepliesFor}
use Rattle.grove_store.proofs.Accepted.{planned_accepted}

-- the text of a list's plan tells it
pub planned_tells : (rows : Rows) (list : List Access) (planned : Planned) (text : List ℕ) → IsPlanned rows list planned
    → text ≡ compact_text (planned_data rows planned.cost planned.plan planned.flow)
    → IsTextOfReply (TellsPlan rows list) text
planned_tells rows list planned text is written =
    (planned_data rows planned.cost planned.plan planned.flow, (planned, is, refl), written)

pub replies_for : (rows : Rows) (list : List Access) (targets : List Target) (text : List ℕ) → AreTargetsOf list targets → IsTextOfReply (TellsPlan rows list) text
    → RepliesFor rows (kept_text targets text)
replies_for rows list targets text own (reply, (planned, is, told), written) other for =
    (reply, (planned, planned_same rows list other planned record { nodes = sym own.nodes ∙ for.nodes; lengths = sym own.lengths ∙ for.lengths } is, told), written)

-- what is found for a list's targets tells its plan
pub found_replies : (rows : Rows) (texts : List KeptText) (list : List Access) (targets : List Target) (text : List ℕ) → All (RepliesFor rows) texts → AreTargetsOf list targets
    → ((place : ℕ) × (slice_get texts place ≡ Some (kept_text targets text))) → IsTextOfReply (TellsPlan rows list) text
found_replies rows texts list targets text all own (place, at) =
    let kept = kept_text targets text in
    subst (RepliesFor rows) (get_or_from_slice_get texts place kept kept at) (all place kept (slice_get_within texts place kept at)) list own

pub plan_accepted : (rows : Rows) (list : List Access) (text : List ℕ) → IsTextOfReply (TellsPlan rows list) text → is_refusal text ≡ false
plan_accepted rows list text (reply, (planned, is, told), written) =
    ap is_refusal (written ∙ ap compact_text told) ∙ planned_accepted rows planned.cost planned.plan planned.flow
