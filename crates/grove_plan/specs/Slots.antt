-- The slots of a plan's locks and unlocks: how many accesses are done before them.
use Rattle.std.specs.Prelude.{◌≡◌, ℕ, List, length, slice_get, Option, Some, None, if◌then◌else◌}
use Rattle.grove_base.specs.Numbers.{any_below, count_below, least_below}
use Rattle.grove_plan.specs.declared.step.Step.{Step}
use Rattle.grove_plan.specs.declared.step.Step.TheVariants.{Lock, Unlock}
use Rattle.grove_plan.specs.Plans.{locks, unlocks, is_access}

-- the number of accesses before a position
abbrev pub accesses_before : List Step → ℕ → ℕ
accesses_before plan position = count_below position (λ i. is_access (slice_get plan i))

-- the slot of some lock, or unlock, of a node
abbrev pub LocksAtSlot : List Step → ℕ → ℕ → Type 0
LocksAtSlot plan node slot = (i : ℕ) × (slice_get plan i ≡ Some (Lock node)) × (slot ≡ accesses_before plan i)

abbrev pub UnlocksAtSlot : List Step → ℕ → ℕ → Type 0
UnlocksAtSlot plan node slot = (i : ℕ) × (slice_get plan i ≡ Some (Unlock node)) × (slot ≡ accesses_before plan i)

-- the positions of a node's first lock and first unlock, where there are such
abbrev pub lock_position : List Step → ℕ → ℕ
lock_position plan node = least_below (length plan) (λ i. locks node (slice_get plan i))

abbrev pub release_position : List Step → ℕ → ℕ
release_position plan node = least_below (length plan) (λ i. unlocks node (slice_get plan i))

-- the numbers of accesses before these
abbrev pub first_lock_slot : List Step → ℕ → ℕ
first_lock_slot plan node = accesses_before plan (lock_position plan node)

abbrev pub first_release_slot : List Step → ℕ → ℕ
first_release_slot plan node = accesses_before plan (release_position plan node)

-- the same of any plan whatever, also of one that doesn't lock or unlock the node
abbrev pub slot_of_lock : List Step → ℕ → Option ℕ
slot_of_lock plan node = if any_below (length plan) (λ i. locks node (slice_get plan i)) then Some
    (first_lock_slot plan node) else None

abbrev pub slot_of_release : List Step → ℕ → Option ℕ
slot_of_release plan node = if any_below (length plan) (λ i. unlocks node (slice_get plan i)) then Some
    (first_release_slot plan node) else None
