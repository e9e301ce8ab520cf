-- What is told of a plan with a flow names nodes of the tree.
use Rattle.std.proofs.Common.{◌≢◌, ℕ, List}
use Rattle.grove_tree.specs.Trees.{Rows}
use Rattle.grove_plan.specs.declared.step.Step.{Step}
use Rattle.grove_proof.specs.declared.flow.FlowRow.{FlowRow}
use Rattle.grove_proof.specs.declared.fault.ProofFault.{ProofFault}
use Rattle.grove_proof.specs.declared.fault.ProofFault.TheVariants as proof
use Rattle.grove_proof.specs.Faults.{IsFault}
use Rattle.grove_wire.specs.Texts.{ProofFaultFits}
use Rattle.grove_answer.proofs.Faults.{fault_fits}

-- what the checker refuses with fits the tree
pub proof_fault_fits : (rows : Rows) (nodes lengths : List ℕ) (plan : List Step) (flow : List FlowRow) (fault : ProofFault)
    → (fault ≢ proof.Memory → IsFault rows nodes lengths plan flow fault) → ProofFaultFits rows fault
proof_fault_fits rows nodes lengths plan flow (proof.Plan fault) first = fault_fits rows nodes plan fault (λ other. first (λ e. absurd (cc)))
proof_fault_fits rows nodes lengths plan flow (proof.Rows row) first = tt
proof_fault_fits rows nodes lengths plan flow (proof.Sign row) first = tt
proof_fault_fits rows nodes lengths plan flow (proof.TooBig row) first = tt
proof_fault_fits rows nodes lengths plan flow (proof.LockBalance row) first = tt
proof_fault_fits rows nodes lengths plan flow (proof.ReleaseBalance row) first = tt
proof_fault_fits rows nodes lengths plan flow (proof.Value cost bound) first = tt
proof_fault_fits rows nodes lengths plan flow proof.Memory first = tt
