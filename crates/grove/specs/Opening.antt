-- For the proofs alone: the file of rounds as it is opened, and the store that is kept there.
use Rattle.std.specs.Prelude.{◌≡◌, ◌⊎◌, ℕ, List, [], Option, Some}
use Rattle.grove_log.specs.Devices.{Only}
use Rattle.grove_disk.specs.Told.{seen_of, left_of, faults_of}
use Rattle.grove_disk.specs.Files.{events_of}
use Rattle.grove_disk.specs.declared.log_file.LogFile.{LogFile}
use Rattle.grove_store.specs.StoreStates.{StoreState}
use Rattle.grove_data.specs.Files.{OpensAs}

-- a file has just been opened, and has these bytes
pub record IsOpened {R S : Type 0} (file : LogFile R S) (bytes : List ℕ) : Type 0 where
  pub bytes_seen : seen_of (events_of file) ≡ bytes
  pub durable : Only (seen_of (events_of file)) (left_of (events_of file))
  pub unfailed : faults_of (events_of file) ≡ 0

-- the store that is kept over a file: the one that the file opens as, or the document's where it has nothing
abbrev pub IsToKeep : List ℕ → Option StoreState → StoreState → Type 0
IsToKeep bytes document store = OpensAs bytes store ⊎ ((bytes ≡ []) × (document ≡ Some store))
