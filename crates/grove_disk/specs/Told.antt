-- What a file was asked and answered, the newest first, and what stands in it then and after a crash.
use Rattle.std.specs.Prelude.{◌≡◌, ◌⊎◌, ℕ, ◌+◌, ◌≤◌, Bool, true, false, List, [], ◌∷◌, ◌++◌, length, Option, Some, None}
use Rattle.std.specs.Prelude.{unwrap_or, slice_index, ◌==◌, if◌then◌else◌}
use Rattle.grove_log.specs.Devices.{Torn}

-- each with whether it was answered well
pub data Event : Type 0 where
  Found : List ℕ → Event
  Appended : Bool → List ℕ → Event
  Synced : Bool → Event
  -- the file beside it was written whole and synced
  NextWritten : Bool → List ℕ → Event
  -- that took this file's place, and the folder was synced
  Renamed : Bool → Event

-- by the number of its kind, and 1 where it was answered well
abbrev pub event_of : List ℕ → List ℕ → Event
event_of numbers bytes =
    let kind = slice_index numbers 0 in
    let good = slice_index numbers 1 == 1 in
    if kind == 0 then Found bytes else
    (if kind == 1 then Appended good bytes else
    (if kind == 2 then Synced good else (if kind == 3 then NextWritten good bytes else Renamed good)))

-- the file beside it, if it was just written
abbrev pub next_of : List Event → Option (List ℕ)
next_of (NextWritten true bytes ∷ past) = Some bytes
next_of past = None

abbrev pub seen_of : List Event → List ℕ
seen_of [] = []
seen_of (Found bytes ∷ past) = bytes
seen_of (Appended true bytes ∷ past) = seen_of past ++ bytes
seen_of (Appended false bytes ∷ past) = seen_of past
seen_of (Synced good ∷ past) = seen_of past
seen_of (NextWritten good bytes ∷ past) = seen_of past
seen_of (Renamed true ∷ past) = unwrap_or (next_of past) (seen_of past)
seen_of (Renamed false ∷ past) = seen_of past

-- what a crash may leave after them
abbrev pub left_of : List Event → List ℕ → Type 0
left_of [] c = c ≡ []
left_of (Found bytes ∷ past) c = c ≡ bytes
left_of (Appended good bytes ∷ past) c = (d : List ℕ) × left_of past d × Torn bytes d c
left_of (Synced true ∷ past) c = (c ≡ seen_of past) × left_of past c
left_of (Synced false ∷ past) c = left_of past c
left_of (NextWritten good bytes ∷ past) c = left_of past c
left_of (Renamed true ∷ past) c = next_of past ≡ Some c
left_of (Renamed false ∷ past) c = left_of past c ⊎ (next_of past ≡ Some c)

-- what a crash at some moment since the first t of them might have left
abbrev pub left_since_of : List Event → ℕ → List ℕ → Type 0
left_since_of [] t c = left_of [] c
left_since_of (event ∷ past) t c = left_of (event ∷ past) c ⊎ ((t ≤ length past) × left_since_of past t c)

abbrev pub failed : Bool → ℕ
failed true = 0
failed false = 1

abbrev pub faults_of : List Event → ℕ
faults_of [] = 0
faults_of (Found bytes ∷ past) = faults_of past
faults_of (Appended good bytes ∷ past) = failed good + faults_of past
faults_of (Synced good ∷ past) = failed good + faults_of past
faults_of (NextWritten good bytes ∷ past) = failed good + faults_of past
faults_of (Renamed good ∷ past) = failed good + faults_of past
