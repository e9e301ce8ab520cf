-- Lines that are answered alone: what each request but a batch is answered, and what it leaves.
use Rattle.std.specs.Prelude.{◌≡◌, ℕ, List, Result, Ok, Err}
use Rattle.serde_json.specs.Data.{Data}
use Rattle.serde_json.specs.Written.{compact_text}
use Rattle.grove_tree.specs.Trees.{Rows}
use Rattle.grove_access.specs.declared.access.Access.{Access}
use Rattle.grove_plan.specs.declared.step.Step.{Step}
use Rattle.grove_proof.specs.declared.flow.FlowRow.{FlowRow}
use Rattle.grove_proof.specs.declared.fault.ProofFault.{ProofFault}
use Rattle.grove_proof.specs.Checks.{ChecksAs}
use Rattle.grove_build.specs.declared.planning.Planned.{Planned}
use Rattle.grove_build.specs.Batches.{IsPlanned}
use Rattle.grove_meter.specs.Waits.{reweighed}
use Rattle.grove_wire.specs.declared.fault.WireFault.{WireFault}
use Rattle.grove_wire.specs.Requests.{Asked, Plan, Check, Batch, Weights, Reweigh, request_of}
use Rattle.grove_wire.specs.Replies.{error_data, planned_data, cost_data, weights_in_rows, weights_data, changed_data}
use Rattle.grove_wire.specs.Names.{wire_name, proof_name}
use Rattle.grove_store.specs.StoreStates.{StoreState, changes, reweighed_store}

-- the settled plan of the list, its cost, and any flow that certifies it
abbrev pub TellsPlan : Rows → List Access → Data → Type 0
TellsPlan rows list reply = (planned : Planned) × IsPlanned rows list planned
    × (reply ≡ planned_data rows planned.cost planned.plan planned.flow)

abbrev pub checked_data : Result ℕ ProofFault → Data
checked_data (Ok sum) = cost_data sum
checked_data (Err fault) = error_data (proof_name fault)

-- that cost, or the name of that fault
abbrev pub TellsCheck : Rows → List Access → List Step → List FlowRow → Data → Type 0
TellsCheck rows list plan flow reply = (checked : Result ℕ ProofFault) × ChecksAs rows list plan flow checked
    × (reply ≡ checked_data checked)

-- what a line is answered by what it asks, and the store that it leaves; a batch isn't answered alone
abbrev pub RepliesAlone : StoreState → Result Asked WireFault → Data → StoreState → Type 0
RepliesAlone before (Err fault) reply after = (reply ≡ error_data (wire_name fault)) × (after ≡ before)
RepliesAlone before (Ok (Plan list)) reply after = TellsPlan before.rows list reply × (after ≡ before)
RepliesAlone before (Ok (Check list plan flow)) reply after = TellsCheck before.rows list plan flow reply
    × (after ≡ before)
RepliesAlone before (Ok (Batch lists)) reply after = ⊥
RepliesAlone before (Ok Weights) reply after =
    (reply ≡ weights_data before.waits (weights_in_rows before.rows)) × (after ≡ before)
RepliesAlone before (Ok Reweigh) reply after =
    (reply ≡ changed_data (changes before.rows (reweighed before.waits before.rows))) × (after ≡ reweighed_store before)

-- the text of such an answer
abbrev pub AnswersAlone : StoreState → List ℕ → List ℕ → StoreState → Type 0
AnswersAlone before line text after = (reply : Data) × RepliesAlone before (request_of before.rows line) reply after
    × (text ≡ compact_text reply)
