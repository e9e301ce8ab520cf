-- For the proofs alone: the parts that keeping and reading are made of.
use Rattle.std.specs.Prelude.{◌≡◌, ◌⊎◌, ℕ, ◌+◌, ◌*◌, ◌^◌, ◌<◌, ◌≤◌, List, [], ◌∷◌, ◌++◌, length, All, ◌==◌}
use Rattle.std.specs.Prelude.{if◌then◌else◌, FitsSigned}
use Rattle.std.specs.Int.{w64}
use Rattle.grove_log.specs.Files.{StandsFor}
use Rattle.grove_tree.specs.Weights.{unweighed}
use Rattle.grove_effects.specs.Snapshots.{Names, IsNamed}
use Rattle.grove_effects.specs.declared.snapshot.SnapshotFault.{SnapshotFault}
use Rattle.grove_effects.specs.declared.snapshot.SnapshotFault.TheVariants.{Memory as no_memory, Unfit as unfit}
use Rattle.grove_tree.specs.declared.fault.TreeFault.{TreeFault}
use Rattle.grove_tree.specs.declared.fault.TreeFault.TheVariants.{Memory as no_tree}
use Rattle.grove_store.specs.StoreStates.{StoreState, IsStore}
use Rattle.grove_data.specs.Numbers.{numbers_of}
use Rattle.grove_data.specs.declared.reading.NoStoreThere.{NoStoreThere}
use Rattle.grove_data.specs.declared.reading.NoStoreThere.TheVariants.{Memory, Unreadable, Unfit}

-- payloads with one more behind them, or a snapshot in their place
abbrev pub AreNext : List (List ℕ) → List ℕ → List ℕ → List (List ℕ) → Type 0
AreNext payloads effect whole next = (next ≡ payloads ++ effect ∷ []) ⊎ (next ≡ whole ∷ [])

-- a file stands for payloads, or for those that are next
abbrev pub IsOldOrNext : List (List ℕ) → List ℕ → List ℕ → List ℕ → Type 0
IsOldOrNext payloads effect whole file =
    StandsFor payloads file ⊎ ((next : List (List ℕ)) × AreNext payloads effect whole next × StandsFor next file)

-- names that a snapshot can hold
abbrev pub AreNames : Names → Type 0
AreNames names = (length names < 2 ^ 32) × All IsNamed names

-- so many names and so many numbers may be those of a store
abbrev pub HasForm : ℕ → ℕ → Type 0
HasForm names numbers = (names ≤ 4096) × (numbers ≡ 3 * names + 1)

-- a store has these names, numbers and workers
pub record IsStoreOf (names : Names) (numbers : List ℕ) (workers : ℕ) (store : StoreState) : Type 0 where
  pub is_store : IsStore store
  pub named : unweighed store.rows ≡ names
  pub numbered : numbers_of store ≡ numbers
  pub fit : All (FitsSigned w64) store.records
  pub worked : store.workers ≡ workers

-- no store was read for want of memory, or for this reason
abbrev pub IsFor : Type 0 → NoStoreThere → Type 0
IsFor reason Memory = Unit {0}
IsFor reason (Unreadable fault) = ⊥
IsFor reason Unfit = reason

-- what is said of rows that no tree can be built from
abbrev pub tree_fault_said : TreeFault → NoStoreThere
tree_fault_said no_tree = Memory
tree_fault_said _ = Unfit

-- what is said of a snapshot that can't be read
abbrev pub fault_said : SnapshotFault → NoStoreThere
fault_said no_memory = Memory
fault_said unfit = Unfit

-- what stands behind the last slash of bytes that come behind others
abbrev pub last_name : List ℕ → List ℕ → List ℕ
last_name so_far [] = so_far
last_name so_far (byte ∷ bytes) = if byte == 47 then last_name [] bytes else last_name (so_far ++ byte ∷ []) bytes
