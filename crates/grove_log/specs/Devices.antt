-- What the calls of a device do to its file, and what a crash may do between two syncs.
use Rattle.std.specs.Prelude.{◌≡◌, ◌⊎◌, ℕ, ◌<◌, ◌≤◌, List, length, take, drop, Result, ◌||◌, Bool, IsTrue, IfErr, OnOk}
use Rattle.grove_log.specs.Frames.{has_frame}
use Rattle.grove_log.specs.Readings.{is_damaged}
use Rattle.grove_log.specs.Files.{reading_of}
use Rattle.grove_log.specs.declared.device.DeviceError.{DeviceError}
use Rattle.grove_log.specs.declared.device.DeviceError.TheVariants.{Memory, Failed}

-- a whole frame stands in the bytes behind a file
abbrev pub holds_any : List ℕ → List ℕ → Bool
holds_any seal bytes = has_frame seal bytes || is_damaged seal bytes

-- After bytes are put behind a file, cut short by a crash: any bytes may stand there, but no whole frame does unless
-- they are those that were put.
pub record Torn (bytes old new : List ℕ) : Type 0 where
  pub before : take (length old) new ≡ old
  pub unforged : IsTrue (holds_any (reading_of old).seal (drop (length old) new)) → drop (length old) new ≡ bytes

-- each new outcome of a crash is an old outcome after a step
abbrev pub Follows : (List ℕ → List ℕ → Type 0) → (List ℕ → Type 0) → (List ℕ → Type 0) → Type 0
Follows step old new = (c : List ℕ) → new c → (d : List ℕ) × old d × step d c

-- a crash leaves this and nothing else
abbrev pub Only : List ℕ → (List ℕ → Type 0) → Type 0
Only file outcomes = (c : List ℕ) → outcomes c → c ≡ file

-- Time goes on: a crash since t might have left what it might have left before, or what it may leave now.
pub record Elapses (before now : ℕ) (past since : ℕ → List ℕ → Type 0) (may_leave : List ℕ → Type 0) : Type 0 where
  pub later : before ≤ now
  pub nothing_else : (t : ℕ) (c : List ℕ) → t ≤ before → since t c → past t c ⊎ may_leave c
  pub keeps : (t : ℕ) (c : List ℕ) → t ≤ before → past t c → since t c

-- A crash at any moment since old leaves a file that has P.
pub record LeavesOnly {D : Type 0} (moment : D → ℕ) (left_since : D → ℕ → List ℕ → Type 0) (old new : D)
    (P : List ℕ → Type 0) : Type 0 where
  pub later : moment old ≤ moment new
  pub each : (c : List ℕ) → left_since new (moment old) c → P c
  -- for a run that began earlier
  pub before : (t : ℕ) (c : List ℕ) → t ≤ moment old → left_since new t c → left_since old t c ⊎ P c

-- `Failed` is told only where the device has failed since
abbrev pub IsCaused : ℕ → ℕ → DeviceError → Type 0
IsCaused before now Memory = Unit {0}
IsCaused before now (Failed error) = before < now

pub record HasCause {T : Type 0} (before now : ℕ) (result : Result T DeviceError) : Type 0 where
  pub later : before ≤ now
  pub failed : IfErr result (IsCaused before now)
  pub steady : OnOk result (now ≡ before)
