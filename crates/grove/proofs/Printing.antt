-- What is read of a document and printed of an answer.
use Rattle.std.proofs.Common.{rules, ◌≡◌, ℕ, Bool, ◌+◌, ◌<◌, ◌≤◌, nat_lt, true, refl, List, ◌++◌, length, Option, Some}
use Rattle.std.proofs.Common.{None, IfSome, IfOk, OnErr, Result, Ok, Err, string_bytes}
use Rattle.std.proofs.Common.{◌⊎◌, sym, ap, ◌∙◌, subst, inl, inr}
use Rattle.std.proofs.Common.{arith, take, length-append, append-nil}
use Rattle.std.proofs.lemmas.Bool.{cases_lt, cond-true}
use Rattle.std.specs.Io.KnownBytes.{Appends, Consumes, IsAtEnd}
use Rattle.grove_wire.specs.declared.fault.WireFault.TheVariants.{Limit}
use Rattle.grove_wire.specs.declared.place.Part.TheVariants.{Whole}
use Rattle.grove_wire.specs.Places.{whole_of}
use Rattle.grove_wire.specs.Reading.{document_of, document_within, history_of}
use Rattle.grove_words.specs.declared.order.Command.{Command}
use Rattle.grove_words.specs.declared.order.Command.TheVariants.{Judge, Check, Plan, Draw, Run, Audit, Tree, Table}
use Rattle.grove_words.specs.declared.order.Command.TheVariants.{Serve, Page}
use Rattle.grove_words.specs.declared.order.Document.{Document}
use Rattle.grove_words.specs.declared.order.Document.TheVariants.{StandardInput, Named}
use Rattle.grove_answer.specs.Outcomes.{Outcome, ThenSays}
use Rattle.grove.specs.declared.answer.Answer.{Answer}
use Rattle.grove.specs.declared.answer.Answer.TheVariants.{Done, Refused, Listen}
use Rattle.grove.specs.Answers.{most_bytes, printed, status_of, IsAnswerTo, IsAsGoodAs, IsStopped, Tells}
use Rattle.grove.specs.Outcomes.{document_for, text_of_table, MaySay, outcome_status, outcome_text, IsOutcome}
use Rattle.grove.specs.Runs.{done_status, IsPrinted, IsSaid, MaySayOf}

-- ---- what is read

over_limit : (most : ℕ) (bytes : List ℕ) → most < length bytes
    → document_within most bytes ≡ Err (Limit (whole_of Whole))
over_limit most bytes h = let over : nat_lt most (length bytes) ≡ true = search rules
    in cond-true (nat_lt most (length bytes)) _ _ over

over_text : (bytes : List ℕ) → 4194304 < length bytes → text_of_table bytes ≡ Err (Limit (whole_of Whole))
over_text bytes h = let over : nat_lt 4194304 (length bytes) ≡ true = search rules
    in cond-true (nat_lt 4194304 (length bytes)) _ _ over

-- more bytes than a command takes are over its limit
over_most : (command : Command) (bytes : List ℕ) → most_bytes command < length bytes
    → document_for command bytes ≡ Err (Limit (whole_of Whole))
unfolding document_of history_of
over_most Judge bytes h = over_limit 4194304 bytes h
over_most Check bytes h = over_limit 4194304 bytes h
over_most (Plan in_document) bytes h = over_limit 4194304 bytes h
over_most (Draw form) bytes h = over_limit 4194304 bytes h
over_most (Run workers) bytes h = over_limit 4194304 bytes h
over_most Audit bytes h = over_limit 67108864 bytes h
over_most (Tree adds_parents) bytes h = over_text bytes h
over_most Table bytes h = over_limit 4194304 bytes h
over_most (Serve serving) bytes h = over_limit 4194304 bytes h
over_most (Page serving) bytes h = over_limit 4194304 bytes h

-- too many bytes are read as the first of them that are too many
same_document : (command : Command) (front rest : List ℕ) → most_bytes command < length front
    → document_for command (front ++ rest) ≡ document_for command front
same_document command front rest h =
    let more : length (front ++ rest) ≡ length front + length rest = length-append front rest in
    over_most command (front ++ rest) (rw more (omega arith)) ∙ sym (over_most command front h)

-- the bytes that were read are as good as the whole input
pub as_good : (command : Command) (known later : Option (List ℕ)) (bytes : List ℕ) → Consumes known later bytes
    → (length bytes ≤ most_bytes command → IsAtEnd later)
    → IsAsGoodAs command StandardInput known bytes
as_good command None later bytes read end = tt
as_good command (Some whole) None bytes read end = absurd read
as_good command (Some whole) (Some rest) bytes read end =
    elim (cases_lt (most_bytes command) (length bytes)) [
      | inl over ↦ ap (document_for command) read ∙ same_document command bytes rest over
      | inr within ↦ ap (document_for command) (read ∙ ap (λ xs. bytes ++ xs) (end within) ∙ append-nil bytes)
    ]

-- what is said of such bytes is said of the document
said_of : (command : Command) (document : Document) (known : Option (List ℕ)) (bytes : List ℕ) (outcome : Outcome)
    → IsAsGoodAs command document known bytes → IsOutcome command bytes outcome
    → MaySayOf command document known outcome
said_of command StandardInput None bytes outcome good said = (bytes, said)
said_of command StandardInput (Some whole) bytes outcome good said =
    subst (λ found. ThenSays found (MaySay command) outcome) (sym good) said
said_of command (Named name) known bytes outcome good said = (bytes, said)

-- ---- what is printed

-- an answer prints what it tells, with its status
told_printed : (May : Outcome → Type 0) (done : ℕ) (answer : Answer) → Tells May done answer
    → (outcome : Outcome) × May outcome × (printed answer ≡ outcome_text outcome)
    × (status_of answer ≡ outcome_status done outcome)
told_printed May done (Done lines) (ends, says) = (Ok (string_bytes lines), says, refl, sym ends)
told_printed May done (Refused line cause) (fault, says, is) = (Err fault, says, is, refl)
told_printed May done (Listen line service) (stays, says) = (Ok (string_bytes line), says, refl, sym stays)

module _ (May : Outcome → Type 0) (done : ℕ) (answer : Answer) (tells : Tells May done answer) where
  -- whole
  is_printed : (old new : Option (List ℕ)) (status : ℕ) → status ≡ status_of answer
      → Appends old new (printed answer) → IsPrinted May done old new status
  is_printed old new status is out =
      let said = told_printed May done answer tells in
      (said.0, said.1, is ∙ said.3, subst (Appends old new) said.2 out)

  -- or in part
  is_stopped : (old new : Option (List ℕ)) (fails : Bool) → IsStopped answer fails old new
      → IsSaid May done old new fails 3
  is_stopped old new fails (inl (failed, count, out)) =
      let said = told_printed May done answer tells in inr (
        refl,
        inr (failed, said.0, said.1, count, subst (λ text. Appends old new (take count text)) said.2 out),
      )
  is_stopped old new fails (inr (listens, out)) = inl (is_printed old new 3 (sym listens) out)

-- what was printed of an answer, or was stopped
pub all_printed : {E : Type 0} (May : Outcome → Type 0) (done : ℕ) (answer : Answer) → Tells May done answer
    → (result : Result ℕ E) (old new : Option (List ℕ))
    → IfOk result (λ status. (status ≡ status_of answer) × Appends old new (printed answer))
    → IfOk result (IsPrinted May done old new)
all_printed May done answer tells (Ok status) old new (is, out) = is_printed May done answer tells old new status is out
all_printed May done answer tells (Err why) old new said = tt

pub all_stopped : {E : Type 0} (May : Outcome → Type 0) (done : ℕ) (answer : Answer) → Tells May done answer
    → (result : Result ℕ E) (old new : Option (List ℕ)) (fails : Bool)
    → OnErr result (IsStopped answer fails old new)
    → OnErr result (IsSaid May done old new fails 3)
all_stopped May done answer tells (Ok status) old new fails stopped = tt
all_stopped May done answer tells (Err why) old new fails stopped =
    is_stopped May done answer tells old new fails stopped

-- what is said of the bytes that were read is said of the document
pub tells_of : (command : Command) (document : Document) (known : Option (List ℕ)) (bytes : List ℕ) (answer : Answer)
    → IsAsGoodAs command document known bytes → IsAnswerTo command (document_for command bytes) answer
    → Tells (MaySayOf command document known) (done_status command) answer
tells_of command document known bytes (Done lines) good (ends, says) =
    (ends, said_of command document known bytes (Ok (string_bytes lines)) good says)
tells_of command document known bytes (Refused line cause) good (fault, says, is) =
    (fault, said_of command document known bytes (Err fault) good says, is)
tells_of command document known bytes (Listen line service) good (stays, says) =
    (stays, said_of command document known bytes (Ok (string_bytes line)) good says)

-- ---- results

-- what holds anyway, and what follows
pub on_err : {A E : Type 0} {P : Type 0} (result : Result A E) → P → OnErr result P
on_err (Ok value) p = tt
on_err (Err why) p = p

pub on_err_weaker : {A E : Type 0} {P Q : Type 0} (result : Result A E) → (P → Q) → OnErr result P → OnErr result Q
on_err_weaker (Ok value) weaker p = tt
on_err_weaker (Err why) weaker p = weaker p
