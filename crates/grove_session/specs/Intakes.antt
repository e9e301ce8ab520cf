-- For the proofs alone: what a session has between two reads, and how bytes that are read take it on.
use Rattle.std.specs.Prelude.{◌≡◌, ℕ, ◌+◌, ◌<◌, Bool, List, [], ◌∷◌, ◌++◌, Option, None, Some, Result, Ok, Err}
use Rattle.std.specs.Prelude.{true, false, length, take, slice_get, nat_lt, if◌then◌else◌, ◌⊎◌}
use Rattle.std.specs.Io.KnownBytes.{Appends, IsAtEnd}
use Rattle.grove_session.specs.declared.open_line.OpenLine.{OpenLine}
use Rattle.grove_session.specs.declared.intake.Intake.{Intake}
use Rattle.grove_session.specs.declared.session_fault.SessionFault.{SessionFault}
use Rattle.grove_session.specs.declared.session_fault.SessionFault.TheVariants.{Read, Write, Memory, Turns, Foreign}
use Rattle.grove_session.specs.declared.session_fault.SessionFault.TheVariants.{Unkept}
use Rattle.grove_session.specs.Sessions.{Lawful, whole_lines, rest_of, long_line_text, IsAnswered, StopsBefore}
use Rattle.grove_session.specs.Sessions.{StopsWithin, SessionEnds, is_write}

-- a line, unless it is too long
abbrev pub clip : List ℕ → Option (List ℕ)
clip line = if nat_lt 1048576 (length line) then None else Some line

-- more bytes of a line that is held
abbrev pub with_bytes : Option (List ℕ) → List ℕ → Option (List ℕ)
with_bytes None bytes = None
with_bytes (Some line) bytes = clip (line ++ bytes)

-- the bytes of a line, unless it is too long
abbrev pub held_line : OpenLine → Option (List ℕ)
held_line line = if line.is_long then None else Some line.bytes.items

-- the reply to a line that is held
abbrev pub IsHeldReplied : {S : Type 0} → Lawful S → S → Option (List ℕ) → List ℕ → S → Type 0
IsHeldReplied lawful old None reply new = (reply ≡ long_line_text) × (new ≡ old)
IsHeldReplied lawful old (Some line) reply new = lawful old line reply new

-- neither the source is blamed nor the number of reads; a sink is blamed with what went out
abbrev pub IsApart : {T : Type 0} → Result T SessionFault → Intake → Type 0
IsApart (Ok _) after = Unit {0}
IsApart (Err (Write n)) after = n ≡ after.written
IsApart (Err Memory) after = Unit {0}
IsApart (Err Foreign) after = Unit {0}
IsApart (Err Unkept) after = Unit {0}
IsApart (Err Read) after = ⊥
IsApart (Err Turns) after = ⊥

-- what was held goes out, unless the sink had failed, and what came before is the result; or the sink fails at it
abbrev pub Settles : Result (Unit {0}) SessionFault → List ℕ → Result (Unit {0}) SessionFault → Type 0
Settles taken held result = ((taken ≡ result) × (is_write taken ≡ false → held ≡ []))
    ⊎ ((is_write result ≡ true) × (0 < length held))

-- a failed write tells how much of a text went out
abbrev pub Tells : SessionFault → List ℕ → Type 0
Tells (Write n) text = n ≡ length text
Tells Read text = Unit {0}
Tells Memory text = Unit {0}
Tells Turns text = Unit {0}
Tells Foreign text = Unit {0}
Tells Unkept text = Unit {0}

-- what went out, and what is still held, is what was held and more; what went out is counted
pub record GoesOut (old new : Option (List ℕ)) (held : List ℕ) (written : ℕ) (more still : List ℕ) (count : ℕ) : Type
    0 where
  pub sent : List ℕ
  pub went : Appends old new sent
  pub rest : sent ++ still ≡ held ++ more
  pub counted : count ≡ written + length sent

abbrev pub Passes : Option (List ℕ) → Option (List ℕ) → Intake → List ℕ → Intake → Type 0
Passes old new before more after = GoesOut old new before.held.items before.written more after.held.items after.written

-- ---- a line is answered

-- a text went out or is held behind so many replies, and the next line begins
pub record SendsWhole (done : ℕ) (text more : List ℕ) (after : Intake) : Type 0 where
  pub sent : more ≡ text
  pub fresh : held_line after.line ≡ Some []
  pub answered : after.answered ≡ done + 1

-- it didn't go out whole
pub record SendsInPart (text more : List ℕ) : Type 0 where
  pub unfinished : length more < length text
  pub cut : more ≡ take (length more) text

abbrev pub Sends : {T : Type 0} → ℕ → List ℕ → Result T SessionFault → List ℕ → Intake → Type 0
Sends done text (Ok _) more after = SendsWhole done text more after
Sends done text (Err (Write n)) more after = SendsInPart text more
Sends done text (Err Read) more after = ⊥
Sends done text (Err Memory) more after = ⊥
Sends done text (Err Turns) more after = ⊥
Sends done text (Err Foreign) more after = ⊥
Sends done text (Err Unkept) more after = ⊥

-- the line has this reply, and it goes out with a line feed
pub record RepliesWhole {S : Type 0} (lawful : Lawful S) (old : S) (done : ℕ) (line : Option (List ℕ))
    (more : List ℕ) (new : S) (after : Intake) : Type 0 where
  pub reply : List ℕ
  pub replied : IsHeldReplied lawful old line reply new
  pub sends : SendsWhole done (reply ++ 10 ∷ []) more after

pub record RepliesInPart {S : Type 0} (lawful : Lawful S) (old : S) (line : Option (List ℕ)) (more : List ℕ)
    (new : S) : Type 0 where
  pub reply : List ℕ
  pub replied : IsHeldReplied lawful old line reply new
  pub sends : SendsInPart (reply ++ 10 ∷ []) more

-- or it has none, or a sink failed within it
abbrev pub FailsNext : {S : Type 0} → Lawful S → S → Option (List ℕ) → SessionFault → List ℕ → S → Type 0
FailsNext lawful old line (Write n) more new = RepliesInPart lawful old line more new
FailsNext lawful old line Memory more new = (more ≡ []) × (new ≡ old)
FailsNext lawful old line Foreign more new = (more ≡ []) × (new ≡ old)
FailsNext lawful old line Unkept more new = (more ≡ []) × (new ≡ old)
FailsNext lawful old line Read more new = ⊥
FailsNext lawful old line Turns more new = ⊥

abbrev pub AnswersNext : {S T : Type 0} → Lawful S → S → ℕ → Option (List ℕ) → Result T SessionFault → List ℕ → S
    → Intake → Type 0
AnswersNext lawful old done line (Ok _) more new after = RepliesWhole lawful old done line more new after
AnswersNext lawful old done line (Err fault) more new after = FailsNext lawful old line fault more new

-- ---- bytes are taken

-- since `first`, `input` was read and `text` answered
pub record IsUnderWay {S : Type 0} (lawful : Lawful S) (first : S) (input text : List ℕ) (now : S)
    (intake : Intake) : Type 0 where
  pub answers : IsAnswered lawful first (whole_lines input) text now
  pub held : held_line intake.line ≡ clip (rest_of input)
  pub answered : intake.answered ≡ length (whole_lines input)

-- a fault among these lines
abbrev pub EndsAmong : {S : Type 0} → Bool → Lawful S → S → List (List ℕ) → SessionFault → List ℕ → S → Type 0
EndsAmong shared lawful first lines Memory text new = StopsBefore lawful first lines text new
EndsAmong shared lawful first lines (Write n) text new = StopsWithin shared lawful first lines text new
EndsAmong shared lawful first lines Foreign text new = (line : List ℕ) × (done : ℕ)
    × (slice_get lines done ≡ Some line) × IsAnswered lawful first (take done lines) text new
EndsAmong shared lawful first lines Unkept text new = (line : List ℕ) × (done : ℕ)
    × (slice_get lines done ≡ Some line) × IsAnswered lawful first (take done lines) text new
EndsAmong shared lawful first lines Read text new = ⊥
EndsAmong shared lawful first lines Turns text new = ⊥

-- whatever was read before, with these bytes the session is so much further
pub record Continues {S : Type 0} (lawful : Lawful S) (old : S) (before : Intake) (bytes more : List ℕ) (new : S)
    (after : Intake) : Type 0 where
  pub on : (first : S) (input text : List ℕ) → IsUnderWay lawful first input text old before
      → IsUnderWay lawful first (input ++ bytes) (text ++ more) new after

-- whatever was read before, a fault comes among these bytes
pub record Breaks {S : Type 0} (shared : Bool) (lawful : Lawful S) (old : S) (before : Intake) (bytes more : List ℕ)
    (fault : SessionFault) (new : S) : Type 0 where
  pub off : (first : S) (input text : List ℕ) → IsUnderWay lawful first input text old before
      → EndsAmong shared lawful first (whole_lines (input ++ bytes)) fault (text ++ more) new

abbrev pub TakesBytes : {S T : Type 0} → Bool → Lawful S → S → Intake → List ℕ → Result T SessionFault → List ℕ → S
    → Intake → Type 0
TakesBytes shared lawful old before bytes (Ok _) more new after = Continues lawful old before bytes more new after
TakesBytes shared lawful old before bytes (Err fault) more new after =
    Breaks shared lawful old before bytes more fault new

-- whatever was read before, the session ends so where there is no more to read
pub record Finishes {S : Type 0} (shared : Bool) (lawful : Lawful S) (old : S) (before : Intake)
    (result : Result ℕ SessionFault) (more : List ℕ) (new : S)
    (after : Intake) : Type 0 where
  pub ends : (first : S) (input text : List ℕ) (left : Option (List ℕ)) → IsUnderWay lawful first input text old before
      → IsAtEnd left
      → after.written ≡ length (text ++ more) → IsApart result after
      → SessionEnds shared lawful first result left input (text ++ more) new
