-- A log that is open, what a crash leaves of it, and what its errors say.
use Rattle.std.specs.Prelude.{◌≡◌, ◌⊎◌, ℕ, List, [], ◌∷◌, ◌++◌, false}
use Rattle.grove_log.specs.Files.{reading_of, StandsFor, IsWhole}
use Rattle.grove_log.specs.Devices.{Only, IsCaused}
use Rattle.grove_log.specs.declared.log.Log.{Log}
use Rattle.grove_log.specs.declared.log.LogError.{LogError}
use Rattle.grove_log.specs.declared.log.LogError.TheVariants.{Memory, Failed, Refused}

-- The file ends with its last frame, all of it on the disk. The log knows the digest that the next is chained to, and
-- the device hasn't failed.
pub record IsSettled {D : Type 0} (seen : D → List ℕ) (may_leave : D → List ℕ → Type 0) (faults : D → ℕ) (log : Log D)
    : Type 0 where
  pub file : IsWhole (seen log.device)
  pub seal : log.seal.bytes ≡ (reading_of (seen log.device)).seal
  pub durable : Only (seen log.device) (may_leave log.device)
  pub unfailed : faults log.device ≡ 0

-- the file can be read, and stands for the payloads, with one more or without it
abbrev pub IsBeforeOrAfter : List (List ℕ) → List ℕ → List ℕ → Type 0
IsBeforeOrAfter payloads payload file = StandsFor payloads file ⊎ StandsFor (payloads ++ payload ∷ []) file

-- the file is as it was, or stands for one payload alone
abbrev pub IsOldOrNew : List ℕ → List ℕ → List ℕ → Type 0
IsOldOrNew old payload file = (file ≡ old) ⊎ StandsFor (payload ∷ []) file

-- Memory that is refused leaves the log as it was. A device's error closes it.
abbrev pub IsTold : {D : Type 0} → (D → ℕ) → Log D → Log D → LogError → Type 0
IsTold faults old new Memory = new ≡ old
IsTold faults old new (Failed error) = (new.accepts ≡ false) × IsCaused (faults old.device) (faults new.device) error
IsTold faults old new Refused = (old.accepts ≡ false) × (new ≡ old)
