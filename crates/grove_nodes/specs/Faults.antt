-- What is told of a fault: its number, and what is at fault.
use Rattle.std.specs.Prelude.{ℕ}
use Rattle.grove_access.specs.declared.fault.ListFault.{ListFault}
use Rattle.grove_access.specs.declared.fault.ListFault.TheVariants as list
use Rattle.grove_plan.specs.declared.fault.PlanFault.{PlanFault}
use Rattle.grove_plan.specs.declared.fault.PlanFault.TheVariants as plan
use Rattle.grove_proof.specs.declared.fault.ProofFault.{ProofFault}
use Rattle.grove_proof.specs.declared.fault.ProofFault.TheVariants as proof
use Rattle.grove_nodes.specs.declared.checked.Checked.{Checked}
use Rattle.grove_nodes.specs.declared.fault.Fault.{Fault}
use Rattle.grove_nodes.specs.declared.fault.Fault.TheVariants as kind

abbrev pub fault_number : Fault → ℕ
fault_number kind.TooLong = 1
fault_number kind.NoNode = 2
fault_number kind.BadLength = 3
fault_number kind.Strange = 4
fault_number kind.Relock = 5
fault_number kind.ParentNotHeld = 6
fault_number kind.NotHeld = 7
fault_number kind.WrongAccess = 8
fault_number kind.AccessNotHeld = 9
fault_number kind.AccessMissing = 10
fault_number kind.StillHeld = 11
fault_number kind.Rows = 12
fault_number kind.Sign = 13
fault_number kind.TooBig = 14
fault_number kind.LockBalance = 15
fault_number kind.ReleaseBalance = 16
fault_number kind.Value = 17

abbrev pub accepted_at : ℕ → Checked
accepted_at cost = record { cost = cost; fault = 0; place = 0 }

abbrev pub refused_for : Fault → ℕ → Checked
refused_for fault place = record { cost = 0; fault = fault_number fault; place = place }

abbrev pub list_told : ListFault → Checked
list_told list.TooLong = refused_for kind.TooLong 64
list_told (list.NoNode access) = refused_for kind.NoNode access
list_told (list.BadLength access) = refused_for kind.BadLength access
list_told list.Memory = accepted_at 0

abbrev pub plan_told : PlanFault → Checked
plan_told (plan.Strange step) = refused_for kind.Strange step
plan_told (plan.Relock step) = refused_for kind.Relock step
plan_told (plan.ParentNotHeld step) = refused_for kind.ParentNotHeld step
plan_told (plan.NotHeld step) = refused_for kind.NotHeld step
plan_told (plan.WrongAccess step) = refused_for kind.WrongAccess step
plan_told (plan.AccessNotHeld step) = refused_for kind.AccessNotHeld step
plan_told (plan.AccessMissing access) = refused_for kind.AccessMissing access
plan_told (plan.StillHeld node) = refused_for kind.StillHeld node
plan_told plan.Memory = accepted_at 0

-- of a wrong value the plan's cost is told
abbrev pub proof_told : ProofFault → Checked
proof_told (proof.Plan fault) = plan_told fault
proof_told (proof.Rows row) = refused_for kind.Rows row
proof_told (proof.Sign row) = refused_for kind.Sign row
proof_told (proof.TooBig row) = refused_for kind.TooBig row
proof_told (proof.LockBalance row) = refused_for kind.LockBalance row
proof_told (proof.ReleaseBalance row) = refused_for kind.ReleaseBalance row
proof_told (proof.Value cost bound) = record { cost = cost; fault = fault_number kind.Value; place = 0 }
proof_told proof.Memory = accepted_at 0
