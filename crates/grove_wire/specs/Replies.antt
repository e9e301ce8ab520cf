-- The JSON values of replies to session lines, with members in the order of their names.
use Rattle.std.specs.Prelude.{ℕ, codes, List, map}
use Rattle.serde_json.specs.Data.{Data, string, object, no_members, member}
use Rattle.serde_json.specs.Written.{compact_text}
use Rattle.grove_tree.specs.Trees.{Rows}
use Rattle.grove_access.specs.declared.reply.Reply.{Reply}
use Rattle.grove_plan.specs.declared.step.Step.{Step}
use Rattle.grove_proof.specs.declared.flow.FlowRow.{FlowRow}
use Rattle.grove_wire.specs.Writing.{count_data, plan_data, flow_data, array_of, reply_data}

-- a refusal, by the name of its fault
abbrev pub error_data : List ℕ → Data
error_data name = object (member (codes "error") (string name) no_members)

abbrev pub error_text : List ℕ → List ℕ
error_text name = compact_text (error_data name)

-- a plan with its cost and a flow
abbrev pub planned_data : Rows → ℕ → List Step → List FlowRow → Data
planned_data rows cost plan flow = object
    (member (codes "cost") (count_data cost)
    (member (codes "flow") (flow_data rows flow)
    (member (codes "plan") (plan_data rows plan) no_members)))

abbrev pub cost_data : ℕ → Data
cost_data cost = object (member (codes "cost") (count_data cost) no_members)

-- what a round did for the lists of a batch: the place of each in the round's serial order, and its replies
abbrev pub round_data : ℕ → List ℕ → List (List Reply) → Data
round_data round places replies = object
    (member (codes "places") (array_of count_data places)
    (member (codes "replies") (array_of (array_of reply_data) replies)
    (member (codes "round") (count_data round) no_members)))

-- the weights of the nodes
abbrev pub weights_in_rows : Rows → List ℕ
weights_in_rows rows = map (λ row. row.weight) rows

abbrev pub weights_data : List ℕ → List ℕ → Data
weights_data waits weights = object
    (member (codes "waits") (array_of count_data waits)
    (member (codes "weights") (array_of count_data weights) no_members))

-- how many weights were changed
abbrev pub changed_data : ℕ → Data
changed_data changed = object (member (codes "changed") (count_data changed) no_members)
