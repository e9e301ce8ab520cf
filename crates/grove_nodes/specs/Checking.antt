-- What a call that checks or judges steps tells its caller.
use Rattle.std.specs.Prelude.{◌≡◌, ◌≢◌, ℕ, ◌⊎◌, List, map, Some}
use Rattle.grove_tree.specs.Trees.{Rows}
use Rattle.grove_access.specs.declared.fault.ListFault.{ListFault}
use Rattle.grove_access.specs.declared.fault.ListFault.TheVariants as list
use Rattle.grove_plan.specs.declared.fault.PlanFault.{PlanFault}
use Rattle.grove_plan.specs.declared.fault.PlanFault.TheVariants as plan_fault
use Rattle.grove_plan.specs.declared.step.Step.{Step}
use Rattle.grove_plan.specs.Faults.{plan_fault_of}
use Rattle.grove_plan.specs.Plans.{IsLegal, IsLeast, cost}
use Rattle.grove_proof.specs.declared.fault.ProofFault.{ProofFault}
use Rattle.grove_proof.specs.declared.fault.ProofFault.TheVariants as proof
use Rattle.grove_proof.specs.declared.flow.FlowRow.{FlowRow}
use Rattle.grove_proof.specs.Faults.{IsFault}
use Rattle.grove_proof.specs.Flows.{IsCertificate}
use Rattle.grove_nodes.specs.declared.checked.Checked.{Checked}
use Rattle.grove_nodes.specs.declared.row.NumberedRow.{NumberedRow}
use Rattle.grove_nodes.specs.declared.status.Status.{Status}
use Rattle.grove_nodes.specs.declared.status.Status.TheVariants as status
use Rattle.grove_nodes.specs.declared.step.NumberedStep.{NumberedStep}
use Rattle.grove_nodes.specs.Faults.{accepted_at, list_told, plan_told, proof_told}
use Rattle.grove_nodes.specs.Lists.{IsListFault}
use Rattle.grove_nodes.specs.Numbered.{step_of, row_of}

-- nodes and lengths are no list over the tree, and it is told why
abbrev pub ListRefused : Rows → List ℕ → List ℕ → Checked → Type 0
ListRefused rows nodes lengths checked = (fault : ListFault) × (fault ≢ list.Memory)
    × IsListFault rows nodes lengths fault × (checked ≡ list_told fault)

-- the plan with its flow has this first fault
abbrev pub ProofRefused : Rows → List ℕ → List ℕ → List Step → List FlowRow → Checked → Type 0
ProofRefused rows nodes lengths plan flow checked = (fault : ProofFault) × (fault ≢ proof.Memory)
    × IsFault rows nodes lengths plan flow fault × (checked ≡ proof_told fault)

-- the plan is legal, and the flow proves that no legal plan costs less
pub record IsAccepted (rows : Rows) (nodes lengths : List ℕ) (plan : List Step) (flow : List FlowRow) : Type 0 where
  pub legal : IsLegal rows nodes plan
  pub least : IsLeast rows nodes lengths plan
  pub certified : IsCertificate rows nodes lengths flow (cost rows lengths plan)

abbrev pub Checks : Rows → List ℕ → List ℕ → List Step → List FlowRow → Checked → Status → Type 0
Checks rows nodes lengths plan flow checked status.Done =
    IsAccepted rows nodes lengths plan flow × (checked ≡ accepted_at (cost rows lengths plan))
Checks rows nodes lengths plan flow checked status.Refused =
    ListRefused rows nodes lengths checked ⊎ ProofRefused rows nodes lengths plan flow checked
Checks rows nodes lengths plan flow checked status.Memory = checked ≡ accepted_at 0
Checks rows nodes lengths plan flow checked _ = ⊥

-- the steps and rows of these numbers are checked
abbrev pub ChecksNodes : Rows → List ℕ → List ℕ → List NumberedStep → List NumberedRow → Checked → Status → Type 0
ChecksNodes rows nodes lengths steps flow = Checks rows nodes lengths (map step_of steps) (map row_of flow)

-- the plan has this first fault
abbrev pub PlanRefused : Rows → List ℕ → List Step → Checked → Type 0
PlanRefused rows nodes plan checked = (fault : PlanFault) × (fault ≢ plan_fault.Memory)
    × (plan_fault_of rows nodes plan ≡ Some fault) × (checked ≡ plan_told fault)

abbrev pub Judges : Rows → List ℕ → List ℕ → List Step → Checked → Status → Type 0
Judges rows nodes lengths plan checked status.Done =
    IsLegal rows nodes plan × (checked ≡ accepted_at (cost rows lengths plan))
Judges rows nodes lengths plan checked status.Refused =
    ListRefused rows nodes lengths checked ⊎ PlanRefused rows nodes plan checked
Judges rows nodes lengths plan checked status.Memory = checked ≡ accepted_at 0
Judges rows nodes lengths plan checked _ = ⊥

-- the steps of these numbers are judged
abbrev pub JudgesNodes : Rows → List ℕ → List ℕ → List NumberedStep → Checked → Status → Type 0
JudgesNodes rows nodes lengths steps = Judges rows nodes lengths (map step_of steps)
