-- For the proofs alone: a plan's fault as the checker's.
use Rattle.grove_plan.specs.declared.fault.PlanFault.{PlanFault}
use Rattle.grove_plan.specs.declared.fault.PlanFault.TheVariants as plan
use Rattle.grove_proof.specs.declared.fault.ProofFault.{ProofFault}
use Rattle.grove_proof.specs.declared.fault.ProofFault.TheVariants as fault

-- a plan's fault as the checker's: out of memory is the outer one
abbrev pub as_proof_fault : PlanFault → ProofFault
as_proof_fault (plan.Strange s) = fault.Plan (plan.Strange s)
as_proof_fault (plan.Relock s) = fault.Plan (plan.Relock s)
as_proof_fault (plan.ParentNotHeld s) = fault.Plan (plan.ParentNotHeld s)
as_proof_fault (plan.NotHeld s) = fault.Plan (plan.NotHeld s)
as_proof_fault (plan.WrongAccess s) = fault.Plan (plan.WrongAccess s)
as_proof_fault (plan.AccessNotHeld s) = fault.Plan (plan.AccessNotHeld s)
as_proof_fault (plan.AccessMissing i) = fault.Plan (plan.AccessMissing i)
as_proof_fault (plan.StillHeld v) = fault.Plan (plan.StillHeld v)
as_proof_fault plan.Memory = fault.Memory
