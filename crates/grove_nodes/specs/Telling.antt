-- For the proofs alone: how a call ends by a fault, and what is told of a list.
use Rattle.std.specs.Prelude.{◌≡◌, ℕ, List}
use Rattle.grove_tree.specs.Trees.{Rows}
use Rattle.grove_plan.specs.declared.step.Step.{Step}
use Rattle.grove_plan.specs.Plans.{IsLegal, cost}
use Rattle.grove_proof.specs.declared.flow.FlowRow.{FlowRow}
use Rattle.grove_nodes.specs.declared.checked.Checked.{Checked}
use Rattle.grove_nodes.specs.Checking.{IsAccepted, PlanRefused, ProofRefused}
use Rattle.grove_nodes.specs.Faults.{accepted_at}
use Rattle.grove_access.specs.declared.fault.ListFault.{ListFault}
use Rattle.grove_access.specs.declared.fault.ListFault.TheVariants as list
use Rattle.grove_plan.specs.declared.fault.PlanFault.{PlanFault}
use Rattle.grove_plan.specs.declared.fault.PlanFault.TheVariants as plan
use Rattle.grove_proof.specs.declared.fault.ProofFault.{ProofFault}
use Rattle.grove_proof.specs.declared.fault.ProofFault.TheVariants as proof
use Rattle.grove_nodes.specs.declared.status.Status.{Status}
use Rattle.grove_nodes.specs.declared.status.Status.TheVariants.{Done, Refused, Memory}

abbrev pub list_status : ListFault → Status
list_status list.Memory = Memory
list_status _ = Refused

abbrev pub plan_status : PlanFault → Status
plan_status plan.Memory = Memory
plan_status _ = Refused

abbrev pub proof_status : ProofFault → Status
proof_status (proof.Plan fault) = plan_status fault
proof_status proof.Memory = Memory
proof_status _ = Refused

abbrev pub ChecksList : Rows → List ℕ → List ℕ → List Step → List FlowRow → Checked → Status → Type 0
ChecksList rows nodes lengths plan flow checked Done =
    IsAccepted rows nodes lengths plan flow × (checked ≡ accepted_at (cost rows lengths plan))
ChecksList rows nodes lengths plan flow checked Refused = ProofRefused rows nodes lengths plan flow checked
ChecksList rows nodes lengths plan flow checked Memory = checked ≡ accepted_at 0
ChecksList rows nodes lengths plan flow checked _ = ⊥

abbrev pub JudgesList : Rows → List ℕ → List ℕ → List Step → Checked → Status → Type 0
JudgesList rows nodes lengths plan checked Done =
    IsLegal rows nodes plan × (checked ≡ accepted_at (cost rows lengths plan))
JudgesList rows nodes lengths plan checked Refused = PlanRefused rows nodes plan checked
JudgesList rows nodes lengths plan checked Memory = checked ≡ accepted_at 0
JudgesList rows nodes lengths plan checked _ = ⊥
