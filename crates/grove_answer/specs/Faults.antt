-- For the proofs alone: what is said of each fault for which a document is refused.
use Rattle.std.specs.Prelude.{◌≡◌, Bool, true, false}
use Rattle.grove_tree.specs.Trees.{Rows}
use Rattle.grove_plan.specs.declared.fault.PlanFault.TheVariants as plan
use Rattle.grove_proof.specs.declared.fault.ProofFault.TheVariants as proof
use Rattle.grove_core.specs.declared.fault.ReplayFault.TheVariants as replay
use Rattle.grove_core.specs.declared.run_fault.RunFault.TheVariants as run
use Rattle.grove_wire.specs.declared.fault.WireFault.TheVariants as wire
use Rattle.grove_wire.specs.declared.faults.Fault.{Fault}
use Rattle.grove_wire.specs.declared.faults.Fault.TheVariants.{Wire, Plan, Proof, Run, Replay, Standing}
use Rattle.grove_wire.specs.Texts.{FaultFits as PlanFaultFits, ProofFaultFits, RunFaultFits, ReplayFaultFits}
use Rattle.grove_answer.specs.declared.refusal.Refusal.{Refusal}
use Rattle.grove_answer.specs.declared.refusal.Refusal.TheVariants as refusal
use Rattle.grove_answer.specs.Outcomes.{fault_line}

-- the nodes that it names are nodes of the tree
abbrev pub NamesNodes : Rows → Fault → Type 0
NamesNodes rows (Wire fault) = Unit {0}
NamesNodes rows (Plan fault) = PlanFaultFits rows fault
NamesNodes rows (Proof fault) = ProofFaultFits rows fault
NamesNodes rows (Run fault) = RunFaultFits rows fault
NamesNodes rows (Replay fault) = ReplayFaultFits rows fault
NamesNodes rows (Standing fault) = Unit {0}

-- is it out of memory, which no document is refused for?
abbrev pub wants_memory : Fault → Bool
wants_memory (Wire wire.Memory) = true
wants_memory (Plan plan.Memory) = true
wants_memory (Proof proof.Memory) = true
wants_memory (Run run.Memory) = true
wants_memory (Replay replay.Memory) = true
wants_memory _ = false

-- a refusal is for the fault and has its text, unless memory is wanting
abbrev pub IsToldFault : Rows → Fault → Refusal → Type 0
IsToldFault rows fault (refusal.Fault told text) =
    (told ≡ fault) × (text ≡ fault_line rows fault) × (wants_memory fault ≡ false)
IsToldFault rows fault refusal.Memory = Unit {0}
