-- For the proofs alone: the answers that are made of what may be said, and what is printed of them.
use Rattle.std.specs.Prelude.{◌≡◌, ◌⊎◌, ℕ, Bool, true, List, take, Option, IfSome, Result, Ok, Err, string_bytes}
use Rattle.std.specs.Io.KnownBytes.{Appends}
use Rattle.serde_json.specs.Data.{Data}
use Rattle.grove_wire.specs.declared.fault.WireFault.{WireFault}
use Rattle.grove_words.specs.declared.order.Command.{Command}
use Rattle.grove_words.specs.declared.order.Command.TheVariants as command
use Rattle.grove_words.specs.declared.order.Document.{Document}
use Rattle.grove_words.specs.declared.order.Document.TheVariants.{StandardInput, Named}
use Rattle.grove_words.specs.declared.order.Place.{Place}
use Rattle.grove_answer.specs.Outcomes.{Outcome, ThenSays}
use Rattle.grove.specs.declared.answer.Answer.{Answer}
use Rattle.grove.specs.declared.answer.Answer.TheVariants.{Done, Refused, Listen}
use Rattle.grove.specs.Lines.{refusal_line, NamesPlace}
use Rattle.grove.specs.Outcomes.{document_for, MaySay}
use Rattle.grove.specs.Runs.{done_status}

-- how many bytes a command's document has at most
abbrev pub most_bytes : Command → ℕ
most_bytes command.Audit = 67108864
most_bytes _ = 4194304

-- what was read is as good as standard input, if that is known
abbrev pub IsAsGoodAs : Command → Document → Option (List ℕ) → List ℕ → Type 0
IsAsGoodAs command StandardInput known bytes =
    IfSome known (λ whole. document_for command whole ≡ document_for command bytes)
IsAsGoodAs command (Named name) known bytes = Unit {0}

-- an answer tells what may be said; what is done has the status `done`
abbrev pub Tells : (Outcome → Type 0) → ℕ → Answer → Type 0
Tells May done (Done lines) = (done ≡ 0) × May (Ok (string_bytes lines))
Tells May done (Refused line cause) = (fault : List ℕ) × May (Err fault) × (string_bytes line ≡ refusal_line fault)
Tells May done (Listen line service) = (done ≡ 3) × May (Ok (string_bytes line))

-- a command may give this answer to what its document is read as
abbrev pub IsAnswerTo : Command → Result Data WireFault → Answer → Type 0
IsAnswerTo command found = Tells (ThenSays found (MaySay command)) (done_status command)

-- a place is listened at
abbrev pub IsListening : Place → Answer → Type 0
IsListening place (Done lines) = ⊥
IsListening place (Refused line cause) = ⊥
IsListening place (Listen line service) = NamesPlace place (string_bytes line)

-- what is printed of an answer, and its status then
abbrev pub printed : Answer → List ℕ
printed (Done lines) = string_bytes lines
printed (Refused line cause) = string_bytes line
printed (Listen line service) = string_bytes line

abbrev pub status_of : Answer → ℕ
status_of (Done lines) = 0
status_of (Refused line cause) = 1
status_of (Listen line service) = 3

-- it is printed in part, and standard output failed; or a port was listened on
abbrev pub IsStopped : Answer → Bool → Option (List ℕ) → Option (List ℕ) → Type 0
IsStopped answer fails old new = ((fails ≡ true) × (count : ℕ) × Appends old new (take count (printed answer)))
    ⊎ ((status_of answer ≡ 3) × Appends old new (printed answer))
