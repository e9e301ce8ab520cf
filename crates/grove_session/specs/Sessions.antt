-- What a session writes of what it reads: lines, their replies, and how a session ends.
use Rattle.std.specs.Prelude.{◌≡◌, ℕ, ◌<◌, ◌≤◌, Bool, true, false, List, [], ◌∷◌, ◌++◌, Option, Some, Result, Ok, Err}
use Rattle.std.specs.Prelude.{length, take, slice_get, codes, nat_lt, if◌then◌else◌, ◌==◌, ◌⊎◌}
use Rattle.std.specs.Io.KnownBytes.{IsAtEnd}
use Rattle.grove_session.specs.declared.answers.AnswerFault.{AnswerFault}
use Rattle.grove_session.specs.declared.answers.AnswerFault.TheVariants as answer
use Rattle.grove_session.specs.declared.session_fault.SessionFault.{SessionFault}
use Rattle.grove_session.specs.declared.session_fault.SessionFault.TheVariants.{Read, Write, Memory, Turns, Foreign}
use Rattle.grove_session.specs.declared.session_fault.SessionFault.TheVariants.{Unkept}

-- ---- lines

-- the lines that end in bytes which follow the beginning of a line
abbrev pub lines_from : List ℕ → List ℕ → List (List ℕ)
lines_from line [] = []
lines_from line (byte ∷ bytes) = if byte == 10 then line ∷ lines_from [] bytes else lines_from (line ++ byte ∷ []) bytes

-- the beginning of a line that is left after them
abbrev pub rest_from : List ℕ → List ℕ → List ℕ
rest_from line [] = line
rest_from line (byte ∷ bytes) = if byte == 10 then rest_from [] bytes else rest_from (line ++ byte ∷ []) bytes

-- the lines that end with a line feed, without it
abbrev pub whole_lines : List ℕ → List (List ℕ)
whole_lines input = lines_from [] input

-- what stands after the last line feed
abbrev pub rest_of : List ℕ → List ℕ
rest_of input = rest_from [] input

-- a last line without a line feed, where there is one
abbrev pub last_line : List ℕ → List (List ℕ)
last_line [] = []
last_line (byte ∷ bytes) = (byte ∷ bytes) ∷ []

-- all the lines of an input
abbrev pub lines_of : List ℕ → List (List ℕ)
lines_of input = whole_lines input ++ last_line (rest_of input)

-- ---- replies

-- which reply to a line is lawful, and what it makes of the state: old, line, reply, new
abbrev pub Lawful : Type 0 → Type 1
Lawful S = S → List ℕ → List ℕ → S → Type 0

-- the reply to a line that is too long
abbrev pub long_line_text : List ℕ
long_line_text = codes "{\"error\":\"long-line\"}"

-- a line that is too long is told so, and changes nothing
abbrev pub UnlessLong : {S : Type 0} → Lawful S → Bool → S → List ℕ → List ℕ → S → Type 0
UnlessLong lawful true old line reply new = (reply ≡ long_line_text) × (new ≡ old)
UnlessLong lawful false old line reply new = lawful old line reply new

-- the reply to a line: lawful, or that it has more than 1,048,576 bytes
abbrev pub IsReplied : {S : Type 0} → Lawful S → S → List ℕ → List ℕ → S → Type 0
IsReplied lawful old line reply new = UnlessLong lawful (nat_lt 1048576 (length line)) old line reply new

-- the text that answers lines in order: to each its reply and a line feed
abbrev pub IsAnswered : {S : Type 0} → Lawful S → S → List (List ℕ) → List ℕ → S → Type 0
IsAnswered lawful old [] text new = (text ≡ []) × (new ≡ old)
IsAnswered {S} lawful old (line ∷ lines) text new = (reply : List ℕ) × (others : List ℕ) × (between : S)
    × IsReplied lawful old line reply between × IsAnswered lawful between lines others new
    × (text ≡ reply ++ 10 ∷ others)

-- ---- ends

-- some lines were answered and went out whole; nothing came of the next
abbrev pub StopsBefore : {S : Type 0} → Lawful S → S → List (List ℕ) → List ℕ → S → Type 0
StopsBefore lawful old lines out new = (done : ℕ) × (done ≤ length lines)
    × IsAnswered lawful old (take done lines) out new

-- a line was answered, but the replies up to its own didn't go out whole; those before it did, if none are shared
pub record StopsWithin {S : Type 0} (shared : Bool) (lawful : Lawful S) (old : S) (lines : List (List ℕ))
    (out : List ℕ) (new : S) : Type 0 where
  pub done : ℕ
  pub line : List ℕ
  pub next : slice_get lines done ≡ Some line
  pub front : List ℕ
  pub between : S
  pub answered : IsAnswered lawful old (take done lines) front between
  pub reply : List ℕ
  pub replied : IsReplied lawful between line reply new
  pub begun : shared ≡ false → length front ≤ length out
  pub unfinished : length out < length (front ++ reply ++ 10 ∷ [])
  pub cut : out ≡ take (length out) (front ++ reply ++ 10 ∷ [])

-- the lines that may be answered: the whole ones and, where nothing is left to read, the last one too
abbrev pub MayAnswer : Option (List ℕ) → List ℕ → List (List ℕ) → Type 0
MayAnswer left input lines = (lines ≡ whole_lines input) ⊎ (IsAtEnd left × (lines ≡ lines_of input))

-- how a session ends that read `input`, left `left` and wrote `out`; of shared answers several may go out at once
abbrev pub SessionEnds : {S : Type 0} → Bool → Lawful S → S → Result ℕ SessionFault → Option (List ℕ) → List ℕ
    → List ℕ → S → Type 0
SessionEnds shared lawful old (Ok n) left input out new = IsAtEnd left × (n ≡ length (lines_of input))
    × IsAnswered lawful old (lines_of input) out new
SessionEnds shared lawful old (Err Read) left input out new = IsAnswered lawful old (whole_lines input) out new
SessionEnds shared lawful old (Err Turns) left input out new = IsAnswered lawful old (whole_lines input) out new
SessionEnds shared lawful old (Err (Write n)) left input out new = (n ≡ length out)
    × ((lines : List (List ℕ)) × MayAnswer left input lines × StopsWithin shared lawful old lines out new)
SessionEnds shared lawful old (Err Memory) left input out new = StopsBefore lawful old (whole_lines input) out new
SessionEnds shared lawful old (Err Foreign) left input out new = (lines : List (List ℕ)) × (line : List ℕ) × (done : ℕ)
    × MayAnswer left input lines × (slice_get lines done ≡ Some line) × IsAnswered lawful old (take done lines) out new
SessionEnds shared lawful old (Err Unkept) left input out new = (lines : List (List ℕ)) × (line : List ℕ) × (done : ℕ)
    × MayAnswer left input lines × (slice_get lines done ≡ Some line) × IsAnswered lawful old (take done lines) out new

-- the source is blamed, and the sink
abbrev pub is_read : {T : Type 0} → Result T SessionFault → Bool
is_read (Err Read) = true
is_read _ = false

abbrev pub is_write : {T : Type 0} → Result T SessionFault → Bool
is_write (Err (Write n)) = true
is_write _ = false

-- a line without an answer ends the session so
abbrev pub fault_of : AnswerFault → SessionFault
fault_of answer.Memory = Memory
fault_of answer.Foreign = Foreign
fault_of answer.Unkept = Unkept
