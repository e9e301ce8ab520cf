-- What the locks and releases of every legal plan keep.
use Rattle.std.specs.Prelude.{◌≡◌, ℕ, suc, ◌+◌, ◌≤◌, List, slice_get, Some}
use Rattle.grove_tree.specs.Trees.{Rows, parent_of}
use Rattle.grove_access.specs.Forced.{IsForcedByTree}
use Rattle.grove_access.specs.Slots.{slots_before}
use Rattle.grove_plan.specs.declared.step.Step.{Step}
use Rattle.grove_plan.specs.Plans.{holding}
use Rattle.grove_plan.specs.Slots.{first_lock_slot, first_release_slot}

-- how many slots lie before a plan's lock, and before its release, of a node
abbrev pub lock_time : List ℕ → List Step → ℕ → ℕ
lock_time lengths plan node = slots_before lengths (first_lock_slot plan node)

abbrev pub release_time : List ℕ → List Step → ℕ → ℕ
release_time lengths plan node = slots_before lengths (first_release_slot plan node)

-- The five constraints on the forced nodes, and what they say of the holding: it lasts from the lock to the release.
pub record MeetsFive (rows : Rows) (nodes lengths : List ℕ) (plan : List Step) : Type 0 where
  pub above : (node parent : ℕ) → IsForcedByTree rows nodes node → IsForcedByTree rows nodes parent
      → parent_of rows node ≡ Some parent → lock_time lengths plan parent ≤ lock_time lengths plan node
  pub held : (node parent : ℕ) → IsForcedByTree rows nodes node → IsForcedByTree rows nodes parent
      → parent_of rows node ≡ Some parent → lock_time lengths plan node ≤ release_time lengths plan parent
  pub first : (node access : ℕ) → slice_get nodes access ≡ Some node → lock_time lengths plan node
      ≤ slots_before lengths access
  pub last : (node access : ℕ) → slice_get nodes access ≡ Some node → slots_before lengths (suc access)
      ≤ release_time lengths plan node
  pub own : (node : ℕ) → IsForcedByTree rows nodes node → lock_time lengths plan node ≤ release_time lengths plan node
  pub holds : (node : ℕ) → IsForcedByTree rows nodes node → lock_time lengths plan node + holding lengths plan node
      ≡ release_time lengths plan node
