-- What a command that serves says.
use Rattle.std.proofs.Common.{◌≡◌, ◌++◌, ℕ, ℤ, List, Result, Ok, Err, Some, IfOk, IsSome, string_bytes}
use Rattle.std.proofs.Common.{refl, subst, sym, arith}
use Rattle.std.specs.Prelude.{codes, decimal, is_ok, true}
use Rattle.grove_tree.specs.Trees.{Rows}
use Rattle.grove_wire.specs.declared.fault.WireFault.{WireFault}
use Rattle.grove_words.specs.declared.order.Place.{Place}
use Rattle.grove_words.specs.declared.order.Serving.{Serving}
use Rattle.grove_answer.specs.Outcomes.{ThenSays}
use Rattle.grove.specs.declared.answer.Answer.{Answer}
use Rattle.grove.specs.declared.answer.Answer.TheVariants.{Done, Refused, Listen}
use Rattle.grove.specs.Answers.{IsListening, Tells}
use Rattle.grove.specs.Lines.{IsDataFault, NamesPlace}
use Rattle.grove.specs.Outcomes.{IsResumed, IsServed}

-- the lines of its place are said of a document that has a tree
says_lines : (serving : Serving) (found : Result (Rows × List ℤ) WireFault) (lines : List ℕ) → is_ok found ≡ true
    → NamesPlace serving.place lines → ThenSays found (IsServed serving) (Ok lines)
says_lines serving (Ok (tree, records)) lines has names = names
says_lines serving (Err fault) lines has names = absurd (cc)

-- and that the file of its rounds is refused, if there is one
says_refused : (serving : Serving) (found : Result (Rows × List ℤ) WireFault) (fault : List ℕ) → is_ok found ≡ true
    → IsSome serving.data → IsDataFault fault → ThenSays found (IsServed serving) (Err fault)
says_refused serving (Ok (tree, records)) fault has file is = (file, is)
says_refused serving (Err why) fault has file is = absurd (cc)

tells_place : (serving : Serving) (found : Result (Rows × List ℤ) WireFault) (answer : Answer) → is_ok found ≡ true
    → IsListening serving.place answer → Tells (ThenSays found (IsServed serving)) 3 answer
tells_place serving found (Done lines) has listens = absurd listens
tells_place serving found (Refused line cause) has listens = absurd listens
tells_place serving found (Listen line service) has listens =
    (refl, says_lines serving found (string_bytes line) has listens)

tells_resumed : (place : Place) (answer : Answer) → IsListening place answer → Tells (IsResumed place) 3 answer
tells_resumed place (Done lines) listens = absurd listens
tells_resumed place (Refused line cause) listens = absurd listens
tells_resumed place (Listen line service) listens = (refl, listens)

tells_served : (serving : Serving) (found : Result (Rows × List ℤ) WireFault) (answer : Answer) → is_ok found ≡ true
    → IsSome serving.data → Tells (IsResumed serving.place) 3 answer
    → Tells (ThenSays found (IsServed serving)) 3 answer
tells_served serving found (Done lines) has file (ends, says) = absurd (omega arith)
tells_served serving found (Refused line cause) has file (fault, says, is) =
    (fault, says_refused serving found fault has file says, is)
tells_served serving found (Listen line service) has file (stays, says) =
    (refl, says_lines serving found (string_bytes line) has says)

-- ---- results

pub serves_listening : {E : Type 0} (serving : Serving) (result : Result Answer E)
    → IfOk result (IsListening serving.place)
    → (found : Result (Rows × List ℤ) WireFault) → is_ok found ≡ true
    → IfOk result (Tells (ThenSays found (IsServed serving)) 3)
serves_listening serving (Ok answer) listens found has = tells_place serving found answer has listens
serves_listening serving (Err why) listens found has = tt

pub serves_kept : {E : Type 0} (serving : Serving) (result : Result Answer E) → IsSome serving.data
    → IfOk result (Tells (IsResumed serving.place) 3)
    → (found : Result (Rows × List ℤ) WireFault) → is_ok found ≡ true
    → IfOk result (Tells (ThenSays found (IsServed serving)) 3)
serves_kept serving (Ok answer) file tells found has = tells_served serving found answer has file tells
serves_kept serving (Err why) file tells found has = tt

pub resumes_listening : {E : Type 0} (place : Place) (result : Result Answer E) → IfOk result (IsListening place)
    → IfOk result (Tells (IsResumed place) 3)
resumes_listening place (Ok answer) listens = tells_resumed place answer listens
resumes_listening place (Err why) listens = tt
