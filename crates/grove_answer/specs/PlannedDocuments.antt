-- For the proofs alone: a document with a plan and a flow put in.
use Rattle.std.specs.Prelude.{ℕ, codes, List}
use Rattle.serde_json.specs.Data.{Data, object, put}
use Rattle.grove_tree.specs.Trees.{Rows}
use Rattle.grove_plan.specs.declared.step.Step.{Step}
use Rattle.grove_proof.specs.declared.flow.FlowRow.{FlowRow}
use Rattle.grove_wire.specs.Writing.{plan_data, flow_data}

-- an object with a member put in, in place of any of that name
abbrev pub with_member : List ℕ → Data → Data → Data
with_member name d (object ms) = object (put name d ms)
with_member name d other = other

abbrev pub planned_document : Rows → List Step → List FlowRow → Data → Data
planned_document tree plan flow document = with_member (codes "plan") (plan_data tree plan)
    (with_member (codes "flow") (flow_data tree flow) document)
