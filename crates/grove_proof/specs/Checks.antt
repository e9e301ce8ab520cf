-- What the check of a plan with its flow comes to.
use Rattle.std.specs.Prelude.{◌≡◌, ◌≢◌, ℕ, List, Result, Ok, Err}
use Rattle.grove_tree.specs.Trees.{Rows}
use Rattle.grove_access.specs.declared.access.Access.{Access}
use Rattle.grove_access.specs.Lists.{nodes_of, lengths_of}
use Rattle.grove_plan.specs.declared.step.Step.{Step}
use Rattle.grove_plan.specs.Plans.{IsLeast, cost}
use Rattle.grove_proof.specs.declared.flow.FlowRow.{FlowRow}
use Rattle.grove_proof.specs.declared.fault.ProofFault.{ProofFault}
use Rattle.grove_proof.specs.declared.fault.ProofFault.TheVariants.{Memory}
use Rattle.grove_proof.specs.Flows.{IsCertificate}
use Rattle.grove_proof.specs.Faults.{IsFault}

-- the cost of a plan that the flow proves least, or the first fault of the plan with the flow
abbrev pub ChecksAs : Rows → List Access → List Step → List FlowRow → Result ℕ ProofFault → Type 0
ChecksAs rows list plan flow (Ok sum) = IsLeast rows (nodes_of list) (lengths_of list) plan
    × IsCertificate rows (nodes_of list) (lengths_of list) flow sum × (sum ≡ cost rows (lengths_of list) plan)
ChecksAs rows list plan flow (Err fault) =
    (fault ≢ Memory) × IsFault rows (nodes_of list) (lengths_of list) plan flow fault
