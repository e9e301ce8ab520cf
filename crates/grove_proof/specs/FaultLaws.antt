-- For the proofs alone: a plan with a flow has one first fault, and one with a certificate has none.
use Rattle.std.specs.Prelude.{◌≡◌, ◌≢◌, ℕ, List}
use Rattle.grove_tree.specs.Trees.{Rows}
use Rattle.grove_plan.specs.declared.step.Step.{Step}
use Rattle.grove_plan.specs.Plans.{IsLegal, cost}
use Rattle.grove_proof.specs.declared.flow.FlowRow.{FlowRow}
use Rattle.grove_proof.specs.declared.fault.ProofFault.{ProofFault}
use Rattle.grove_proof.specs.declared.fault.ProofFault.TheVariants.{Memory}
use Rattle.grove_proof.specs.Flows.{IsCertificate}
use Rattle.grove_proof.specs.Faults.{IsFault}

-- a plan with a flow has one first fault alone
abbrev pub FaultIsOne : Type 0
FaultIsOne = (rows : Rows) (nodes lengths : List ℕ) (plan : List Step) (flow : List FlowRow) (one other : ProofFault)
    → one ≢ Memory → other ≢ Memory
    → IsFault rows nodes lengths plan flow one → IsFault rows nodes lengths plan flow other → one ≡ other

-- a legal plan with a certificate of its cost has no fault, and is accepted unless memory runs out
abbrev pub CertifiedIsFaultless : Type 0
CertifiedIsFaultless = (rows : Rows) (nodes lengths : List ℕ) (plan : List Step) (flow : List FlowRow)
    (fault : ProofFault) → IsLegal rows nodes plan
    → IsCertificate rows nodes lengths flow (cost rows lengths plan) → IsFault rows nodes lengths plan flow fault
    → fault ≡ Memory
