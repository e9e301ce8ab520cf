-- What holds of every run.
use Rattle.std.specs.Prelude.{◌≡◌, ℕ, ◌<◌, ℤ, List, [], ◌∷◌, length, slice_get, Some}
use Rattle.grove_tree.specs.Trees.{Rows, IsTree}
use Rattle.grove_core.specs.declared.job.Job.{Job}
use Rattle.grove_core.specs.declared.event.Event.{Event}
use Rattle.grove_core.specs.declared.event.Event.TheVariants.{Take}
use Rattle.grove_core.specs.Serial.{serial_records, serial_replies}
use Rattle.grove_core.specs.Runs.{list_of, plan_of, steps_done, AllLegal, MayHappen, IsRun, IsFinished, IsBlocked}
use Rattle.grove_core.specs.Runs.{run_records, run_replies}
use Rattle.grove_core.specs.Orders.{placement_order}

-- the lists done whole, one after the other, give the records and replies of the run
pub record IsSerialBy (order : List ℕ) (jobs : List Job) (opening : List ℤ) (past : List Event) : Type 0 where
  pub records : serial_records (list_of jobs) order opening ≡ run_records jobs opening past
  pub replies : (t : ℕ) → serial_replies (list_of jobs) order opening t ≡ run_replies jobs opening past t

-- an order of n jobs has each job once
pub record IsEachOnce (order : List ℕ) (n : ℕ) : Type 0 where
  pub within : (i t : ℕ) → slice_get order i ≡ Some t → t < n
  pub all : (t : ℕ) → t < n → (i : ℕ) × (slice_get order i ≡ Some t)
  pub once : (i j t : ℕ) → slice_get order i ≡ Some t → slice_get order j ≡ Some t → i ≡ j

abbrev pub RunsAreSerial : Type 0
RunsAreSerial = (rows : Rows) → IsTree rows → (jobs : List Job) → AllLegal rows jobs
    → (opening : List ℤ) (past : List Event) → IsRun jobs past → IsFinished jobs past
    → IsEachOnce (placement_order rows jobs past) (length jobs)
    × IsSerialBy (placement_order rows jobs past) jobs opening past

-- some job's next step may be done
abbrev pub CanGoOn : List Job → List Event → Type 0
CanGoOn jobs past = (next : ℕ) × MayHappen jobs past (Take next)

abbrev pub RunsGoOn : Type 0
RunsGoOn = (rows : Rows) → IsTree rows → (jobs : List Job) → AllLegal rows jobs → (past : List Event) → IsRun jobs past
    → (t : ℕ) → steps_done past t < length (plan_of jobs t) → CanGoOn jobs past

-- the job waits for the first of the others, each of these for the next, and the last of them for job u
abbrev pub WaitsAlong : List Job → List Event → ℕ → List ℕ → ℕ → Type 0
WaitsAlong jobs past t [] u = IsBlocked jobs past t u
WaitsAlong jobs past t (next ∷ others) u = IsBlocked jobs past t next × WaitsAlong jobs past next others u

-- no jobs wait for each other in a circle
abbrev pub NoCircles : Type 0
NoCircles = (rows : Rows) → IsTree rows → (jobs : List Job) → AllLegal rows jobs → (past : List Event) → IsRun jobs past
    → (t : ℕ) (others : List ℕ) → ¬ WaitsAlong jobs past t others t
