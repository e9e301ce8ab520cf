-- What is kept of a store while its file is open.
use Rattle.std.specs.Prelude.{◌≡◌, ℕ, List, [], IsTrue}
use Rattle.grove_log.specs.Files.{recovered}
use Rattle.grove_log.specs.Logs.{IsSettled}
use Rattle.grove_tree.specs.Weights.{unweighed}
use Rattle.grove_effects.specs.Snapshots.{snapshot}
use Rattle.grove_store.specs.StoreStates.{StoreState, IsStore}
use Rattle.grove_data.specs.Numbers.{numbers_of, IsStoreIn}
use Rattle.grove_data.specs.declared.data.Data.{Data}

-- the device that the file is on
abbrev pub device_of : {D : Type 0} → Data D → D
device_of held = held.log.device

-- The log accepts, and all of its file is on the disk and stands for the store, whose names and numbers are at hand.
pub record Keeps {D : Type 0} (seen : D → List ℕ) (may_leave : D → List ℕ → Type 0) (faults : D → ℕ) (held : Data D)
    (store : StoreState) : Type 0 where
  pub accepts : IsTrue held.log.accepts
  pub settled : IsSettled seen may_leave faults held.log
  pub is_store : IsStore store
  pub stands : IsStoreIn (recovered (seen (device_of held))) store
  pub names : held.names.items ≡ snapshot (unweighed store.rows) []
  pub numbers : held.kept.items ≡ numbers_of store
