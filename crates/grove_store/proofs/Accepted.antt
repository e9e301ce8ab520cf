-- A refusal begins as one, and no other reply does: the name of its first member is another.
use Rattle.std.proofs.Common.{◌≡◌, ℕ, List, true, false, refl}
use Rattle.json.specs.Print.{escape_byte}
use Rattle.serde_json.specs.Written.{compact_text}
use Rattle.grove_tree.specs.Trees.{Rows}
use Rattle.grove_access.specs.declared.reply.Reply.{Reply}
use Rattle.grove_plan.specs.declared.step.Step.{Step}
use Rattle.grove_proof.specs.declared.flow.FlowRow.{FlowRow}
use Rattle.grove_wire.specs.Replies.{error_text, planned_data, cost_data, round_data, weights_data, changed_data}
use Rattle.grove_store.specs.Refusals.{is_refusal}

pub error_refuses : (name : List ℕ) → is_refusal (error_text name) ≡ true
unfolding escape_byte
error_refuses name = refl

pub planned_accepted : (rows : Rows) (cost : ℕ) (plan : List Step) (flow : List FlowRow)
    → is_refusal (compact_text (planned_data rows cost plan flow)) ≡ false
unfolding escape_byte
planned_accepted rows cost plan flow = refl

pub cost_accepted : (cost : ℕ) → is_refusal (compact_text (cost_data cost)) ≡ false
unfolding escape_byte
cost_accepted cost = refl

pub round_accepted : (round : ℕ) (places : List ℕ) (replies : List (List Reply))
    → is_refusal (compact_text (round_data round places replies)) ≡ false
unfolding escape_byte
round_accepted round places replies = refl

pub weights_accepted : (waits weights : List ℕ) → is_refusal (compact_text (weights_data waits weights)) ≡ false
unfolding escape_byte
weights_accepted waits weights = refl

pub changed_accepted : (changed : ℕ) → is_refusal (compact_text (changed_data changed)) ≡ false
unfolding escape_byte
changed_accepted changed = refl
