-- A log's file: a head with a number of its own, and frames, of which the first is chained to the number.
use Rattle.std.specs.Prelude.{◌≡◌, ℕ, ◌-◌, ◌<◌, ◌^◌, List, [], ◌++◌, length, take, drop, Option, Some, None}
use Rattle.std.specs.Prelude.{◌||◌, not, ◌==◌, nat_eq, nat_lt, if◌then◌else◌, codes}
use Rattle.std.specs.Int.{w32, to_le_bytes, from_le_bytes}
use Rattle.std.specs.List.{starts_with}
use Rattle.std.specs.Option.{option_map_or}
use Rattle.grove_log.specs.Frames.{frame}
use Rattle.grove_log.specs.Readings.{Reading, reading, is_damaged}
use Rattle.grove_log.specs.declared.reading.Unreadable.{Unreadable}
use Rattle.grove_log.specs.declared.reading.Unreadable.TheVariants.{NotALog, OtherVersion, Damaged}

-- a magic word, the version, and a number of 32 bytes that was drawn for this file
unfoldable pub head : List ℕ → List ℕ
head number = codes "grovelog" ++ to_le_bytes w32 1 ++ number

abbrev pub number_of : List ℕ → List ℕ
number_of file = take 32 (drop 12 file)

abbrev pub reading_of : List ℕ → Reading
reading_of file = reading (number_of file) (drop 44 file)

-- the payloads that a file stands for, whatever a crash made of it
abbrev pub recovered : List ℕ → List (List ℕ)
recovered file = (reading_of file).payloads

abbrev pub version_of : List ℕ → ℕ
version_of file = from_le_bytes w32 (take 4 (drop 8 file))

abbrev pub damage_of : ℕ → Reading → Option Unreadable
damage_of length_of_file r = if is_damaged r.seal r.rest then Some (Damaged (length_of_file - length r.rest)) else None

-- what is wrong with a file's head, if anything
unfoldable pub head_fault : List ℕ → Option Unreadable
head_fault file =
    if nat_lt (length file) 44 || not (starts_with nat_eq file (codes "grovelog")) then Some NotALog else
    (if version_of file == 1 then None else Some (OtherVersion (version_of file)))

-- why a file can't be read, if it can't
unfoldable pub fault_of : List ℕ → Option Unreadable
fault_of file = option_map_or (λ fault. Some fault) (head_fault file) (damage_of (length file) (reading_of file))

-- the file can be read, and stands for these payloads
pub record StandsFor (all : List (List ℕ)) (file : List ℕ) : Type 0 where
  pub readable : fault_of file ≡ None
  pub payloads : recovered file ≡ all

-- the file can be read, and ends with its last frame
pub record IsWhole (file : List ℕ) : Type 0 where
  pub readable : fault_of file ≡ None
  pub nothing_left : (reading_of file).rest ≡ []

-- the bytes are a frame that is chained to the file's last
abbrev pub IsNextFrame : List ℕ → List ℕ → Type 0
IsNextFrame file bytes = (payload : List ℕ) × (length payload < 2 ^ 32) × (bytes ≡ frame (reading_of file).seal payload)
