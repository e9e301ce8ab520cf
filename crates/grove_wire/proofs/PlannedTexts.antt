-- A plan with its cost and its flow, written part after part.
use Rattle.std.proofs.Common.{◌≡◌, ℕ, List, [], ◌∷◌, ◌++◌, codes, decimal, ap, ◌∙◌}
use Rattle.json.specs.Token.{Token, begin_object, end_object, key, number}
use Rattle.json.specs.Tree.{json_tokens}
use Rattle.json.specs.Print.{print}
use Rattle.serde_json.specs.Written.{outline, compact_text}
use Rattle.serde_json.proofs.Texts.{print-outline}
use Rattle.grove_tree.specs.Trees.{Rows}
use Rattle.grove_plan.specs.declared.step.Step.{Step}
use Rattle.grove_proof.specs.declared.flow.FlowRow.{FlowRow}
use Rattle.grove_wire.specs.Replies.{planned_data}
use Rattle.grove_wire.specs.Writing.{plan_data, flow_data}
use Rattle.grove_wire.proofs.Tokens.{joined}

module _ (rows : Rows) (cost : ℕ) (plan : List Step) (flow : List FlowRow) where
  steps : List Token
  steps = json_tokens (outline (plan_data rows plan))

  amounts : List Token
  amounts = json_tokens (outline (flow_data rows flow))

  -- the text of a planned reply whose tokens were written one part after the other
  pub planned_written : (none opened counted first flowed second planned all : List Token) → none ≡ []
      → opened ≡ none ++ begin_object ∷ []
      → counted ≡ opened ++ key (codes "cost") ∷ number (decimal cost) ∷ []
      → first ≡ counted ++ key (codes "flow") ∷ []
      → flowed ≡ first ++ json_tokens (outline (flow_data rows flow))
      → second ≡ flowed ++ key (codes "plan") ∷ []
      → planned ≡ second ++ json_tokens (outline (plan_data rows plan))
      → all ≡ planned ++ end_object ∷ [] → print all ≡ compact_text (planned_data rows cost plan flow)
  unfolding steps amounts
  planned_written none opened counted first flowed second planned all is opens counts names_flow flows names_plan
      plans ends =
      let front = begin_object ∷ key (codes "cost") ∷ number (decimal cost) ∷ key (codes "flow") ∷ [] in
      let middle = key (codes "plan") ∷ [] in
      let to_opened = opens ∙ ap (λ ts. ts ++ begin_object ∷ []) is in
      let to_counted = counts ∙ ap (λ ts. ts ++ key (codes "cost") ∷ number (decimal cost) ∷ []) to_opened in
      let to_first = names_flow ∙ ap (λ ts. ts ++ key (codes "flow") ∷ []) to_counted in
      let to_flowed = flows ∙ ap (λ ts. ts ++ amounts) to_first in
      let to_second = names_plan ∙ ap (λ ts. ts ++ middle) to_flowed in
      let to_planned = plans ∙ ap (λ ts. ts ++ steps) to_second in
      let to_all = ends ∙ ap (λ ts. ts ++ end_object ∷ []) to_planned in
      ap print (to_all ∙ joined front amounts middle steps (end_object ∷ []))
      ∙ print-outline (planned_data rows cost plan flow)
