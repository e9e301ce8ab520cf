-- The settled plan: the latest least plan, laid out gap by gap.
use Rattle.std.specs.Prelude.{◌≡◌, ℕ, ◌≤◌, ◌↔◌, List, length}
use Rattle.grove_tree.specs.Trees.{Rows}
use Rattle.grove_plan.specs.declared.step.Step.{Step}
use Rattle.grove_plan.specs.Plans.{IsLeast, IsLockedBy, IsForced, cost}
use Rattle.grove_plan.specs.Slots.{first_lock_slot, first_release_slot}
use Rattle.grove_proof.specs.declared.flow.FlowRow.{FlowRow}
use Rattle.grove_proof.specs.declared.fault.ProofFault.{ProofFault}
use Rattle.grove_proof.specs.declared.fault.ProofFault.TheVariants.{Memory}
use Rattle.grove_proof.specs.Forced.{IsForcedList}
use Rattle.grove_proof.specs.Flows.{IsCertificate}
use Rattle.grove_proof.specs.Faults.{IsFault}
use Rattle.grove_build.specs.Layout.{laid_out}

-- A plan is settled where it is least, locks the forced nodes and no others, locks and unlocks each of them as late
-- as any least plan does, and is laid out from those slots.
pub record IsSettled (rows : Rows) (nodes lengths : List ℕ) (plan : List Step) : Type 0 where
  pub least : IsLeast rows nodes lengths plan
  pub locks : (node : ℕ) → IsLockedBy plan node ↔ IsForced rows nodes node
  pub lock_latest : (other : List Step) → IsLeast rows nodes lengths other → (node : ℕ) → IsForced rows nodes node
      → first_lock_slot other node ≤ first_lock_slot plan node
  pub release_latest : (other : List Step) → IsLeast rows nodes lengths other → (node : ℕ) → IsForced rows nodes node
      → first_release_slot other node ≤ first_release_slot plan node
  pub list : List ℕ
  pub is_forced_list : IsForcedList rows nodes list
  pub laid : plan ≡ laid_out rows list (first_lock_slot plan) (first_release_slot plan) (length nodes)

-- at most one plan is settled for a list
abbrev pub SettledOnce : Type 0
SettledOnce = (rows : Rows) (nodes lengths : List ℕ) (plan other : List Step) → IsSettled rows nodes lengths plan
    → IsSettled rows nodes lengths other → plan ≡ other

-- the checker refuses a settled plan with a certificate of its cost only when out of memory
abbrev pub SettledIsAccepted : Type 0
SettledIsAccepted = (rows : Rows) (nodes lengths : List ℕ) (plan : List Step) (flow : List FlowRow) (fault : ProofFault)
    → IsSettled rows nodes lengths plan
    → IsCertificate rows nodes lengths flow (cost rows lengths plan) → IsFault rows nodes lengths plan flow fault
    → fault ≡ Memory
