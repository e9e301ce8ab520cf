-- What the program does, as far as it is known what standard input had, and what the outputs have.
use Rattle.std.specs.Prelude.{◌≡◌, ◌≢◌, ◌≤◌, ◌⊎◌, ℕ, Bool, true, false, List, [], take, Option, None, Some}
use Rattle.std.specs.Io.KnownBytes.{Appends, Keeps}
use Rattle.grove_words.specs.declared.order.Command.{Command}
use Rattle.grove_words.specs.declared.order.Command.TheVariants.{Serve, Page}
use Rattle.grove_words.specs.declared.order.Document.{Document}
use Rattle.grove_words.specs.declared.order.Document.TheVariants.{StandardInput, Named}
use Rattle.grove_words.specs.declared.order.Order.{Order}
use Rattle.grove_words.specs.declared.order.Order.TheVariants.{Do, Resume, Data, Ask, Save}
use Rattle.grove_answer.specs.Outcomes.{Outcome}
use Rattle.grove.specs.Lines.{refusal_line}
use Rattle.grove.specs.Outcomes.{outcome_status, outcome_text, IsOutcome, IsResumed, TellsFile}

-- the status of a command that is done; one that serves goes on until something stops it
abbrev pub done_status : Command → ℕ
done_status (Serve serving) = 3
done_status (Page serving) = 3
done_status _ = 0

-- what a command may say of standard input, if its bytes are known, and else of some bytes
abbrev pub MaySayOf : Command → Document → Option (List ℕ) → Outcome → Type 0
MaySayOf command StandardInput (Some bytes) outcome = IsOutcome command bytes outcome
MaySayOf command StandardInput None outcome = (bytes : List ℕ) × IsOutcome command bytes outcome
MaySayOf command (Named name) known outcome = (bytes : List ℕ) × IsOutcome command bytes outcome

-- standard output got the text of what may be said, whose status is this one if what is done has the status `done`
abbrev pub IsPrinted : (Outcome → Type 0) → ℕ → Option (List ℕ) → Option (List ℕ) → ℕ → Type 0
IsPrinted MaySay done old new status = (outcome : Outcome) × MaySay outcome × (status ≡ outcome_status done outcome)
    × Appends old new (outcome_text outcome)

-- or it got nothing; or it failed, and got only the first bytes of such a text
abbrev pub IsCutOff : (Outcome → Type 0) → Option (List ℕ) → Option (List ℕ) → Bool → Type 0
IsCutOff MaySay old new fails = Keeps old new
    ⊎ ((fails ≡ true) × (outcome : Outcome) × MaySay outcome × (count : ℕ)
    × Appends old new (take count (outcome_text outcome)))

-- the one or the other, with the status 3
abbrev pub IsSaid : (Outcome → Type 0) → ℕ → Option (List ℕ) → Option (List ℕ) → Bool → ℕ → Type 0
IsSaid MaySay done old new fails status =
    IsPrinted MaySay done old new status ⊎ ((status ≡ 3) × IsCutOff MaySay old new fails)

-- standard output got the line of some refusal
abbrev pub SaysRefusal : Option (List ℕ) → Option (List ℕ) → Type 0
SaysRefusal old new = (fault : List ℕ) × Appends old new (refusal_line fault)

-- an order was done, or given up: standard input, standard output before and after, whether that failed, the status
abbrev pub IsDone : Order → Option (List ℕ) → Option (List ℕ) → Option (List ℕ) → Bool → ℕ → Type 0
IsDone (Do command document) input old new fails status =
    IsPrinted (MaySayOf command document input) (done_status command) old new status
    ⊎ ((status ≡ 3) × IsCutOff (MaySayOf command document input) old new fails)
IsDone (Resume front file serving) input old new fails status =
    IsSaid (IsResumed serving.place) 3 old new fails status
IsDone (Data file checks) input old new fails status = IsSaid (TellsFile checks) 0 old new fails status
IsDone (Ask server lines) input old new fails status = (status ≤ 1) ⊎ (status ≡ 3)
IsDone (Save server file) input old new fails status =
    (((status ≡ 0) × Keeps old new) ⊎ ((status ≡ 1) × SaysRefusal old new))
    ⊎ ((status ≡ 3) × (fails ≡ false → Keeps old new))

-- the document of an order is in a file
abbrev pub HasFile : Order → Type 0
HasFile (Do command (Named name)) = Unit {0}
HasFile _ = ⊥

-- an output got some text
abbrev pub SaysSomething : Option (List ℕ) → Option (List ℕ) → Type 0
SaysSomething old new = (text : List ℕ) × (text ≢ []) × Appends old new text

-- words that are no order were told something: help on standard output, or on standard error what is wrong with them
abbrev pub IsTold : Option (List ℕ) → Option (List ℕ) → Bool → Option (List ℕ) → Option (List ℕ) → ℕ → Type 0
IsTold old new fails old_errors new_errors status = ((status ≡ 0) × SaysSomething old new)
    ⊎ (((status ≡ 2) × Keeps old new × SaysSomething old_errors new_errors)
    ⊎ ((status ≡ 3) × (fails ≡ false → Keeps old new)))
