-- What is said of a plan with a flow that is refused.
use Rattle.std.proofs.Common.{◌≡◌, ◌≢◌, true, false, List, Err, subst, ap}
use Rattle.grove_tree.specs.Trees.{Rows}
use Rattle.grove_access.specs.declared.access.Access.{Access}
use Rattle.grove_access.specs.Lists.{nodes_of, lengths_of}
use Rattle.grove_plan.specs.declared.step.Step.{Step}
use Rattle.grove_proof.specs.declared.flow.FlowRow.{FlowRow}
use Rattle.grove_proof.specs.Faults.{IsFault}
use Rattle.grove_proof.specs.declared.fault.ProofFault.{ProofFault}
use Rattle.grove_proof.specs.declared.fault.ProofFault.TheVariants as proof
use Rattle.grove_wire.specs.declared.faults.Fault.TheVariants.{Proof}
use Rattle.grove_answer.specs.declared.refusal.Refusal.{Refusal}
use Rattle.grove_answer.specs.declared.refusal.Refusal.TheVariants.{Fault, Memory}
use Rattle.grove_answer.specs.Outcomes.{IsCheckedOver}
use Rattle.grove_answer.specs.Faults.{wants_memory, IsToldFault}
use Rattle.grove_answer.specs.Says.{Says}

no_memory : (fault : ProofFault) → wants_memory (Proof fault) ≡ false → fault ≢ proof.Memory
no_memory fault other is = let never : true ≡ false =
    subst (λ f. wants_memory (Proof f) ≡ false) is other in absurd (cc)

-- a refusal tells the first fault of a plan with a flow
pub says_proof : (Z : Type 0) (tree : Rows) (list : List Access) (plan : List Step) (flow : List FlowRow)
    (fault : ProofFault)
    (refusal : Refusal) → IsToldFault tree (Proof fault) refusal
    → (fault ≢ proof.Memory → IsFault tree (nodes_of list) (lengths_of list) plan flow fault)
    → Says {Z = Z} (IsCheckedOver tree (list, plan, flow)) (Err refusal)
says_proof Z tree list plan flow fault (Fault said text) told first = let other =
    no_memory fault told.2 in (Err fault, (other, first other), ap Err told.1)
says_proof Z tree list plan flow fault Memory told first = tt
