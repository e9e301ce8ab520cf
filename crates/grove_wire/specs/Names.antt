-- The names of faults. They don't depend on the rows, by whose paths texts tell nodes.
use Rattle.std.specs.Prelude.{List, [], ℕ}
use Rattle.grove_plan.specs.declared.fault.PlanFault.{PlanFault}
use Rattle.grove_proof.specs.declared.fault.ProofFault.{ProofFault}
use Rattle.grove_core.specs.declared.run_fault.RunFault.{RunFault}
use Rattle.grove_wire.specs.declared.faults.Fault.{Fault}
use Rattle.grove_wire.specs.declared.fault.WireFault.{WireFault}
use Rattle.grove_wire.specs.Texts.{wire_said, plan_said, proof_said, run_said, fault_said}

abbrev pub wire_name : WireFault → List ℕ
wire_name fault = (wire_said fault).0

abbrev pub plan_name : PlanFault → List ℕ
plan_name fault = (plan_said [] fault).0

abbrev pub proof_name : ProofFault → List ℕ
proof_name fault = (proof_said [] fault).0

abbrev pub run_name : RunFault → List ℕ
run_name fault = (run_said [] fault).0

abbrev pub fault_name : Fault → List ℕ
fault_name fault = (fault_said [] fault).0
