-- Texts that answer lines, and what is added to them.
use Rattle.std.proofs.Common.{◌≡◌, ℕ, ◌<◌, ◌≤◌, Bool, List, [], ◌∷◌, ◌++◌, Option, Some, length, take, Result, Ok, Err}
use Rattle.std.proofs.Common.{refl, sym, ap, subst, ◌∙◌, append_assoc, arith, length-append}
use Rattle.std.specs.Prelude.{slice_get}
use Rattle.std.proofs.lemmas.List.{take-append-le}
use Rattle.std.proofs.Math.Seq.{take-append_seam, take-append-add}
use Rattle.std.proofs.lemmas.Option.{slice_get_within}
use Rattle.grove_base.proofs.Lists.{get_append_left}
use Rattle.grove_session.specs.declared.answers.AnswerFault.{AnswerFault}
use Rattle.grove_session.specs.declared.answers.AnswerFault.TheVariants as answer
use Rattle.grove_session.specs.declared.intake.Intake.{Intake}
use Rattle.grove_session.specs.declared.session_fault.SessionFault.{SessionFault}
use Rattle.grove_session.specs.declared.session_fault.SessionFault.TheVariants.{Read, Write, Memory, Turns, Foreign, Unkept}
use Rattle.grove_session.specs.Sessions.{Lawful, IsReplied, IsAnswered, StopsBefore, StopsWithin, fault_of}
use Rattle.grove_session.specs.Intakes.{IsHeldReplied, SendsWhole, SendsInPart, Sends}
use Rattle.grove_session.specs.Intakes.{FailsNext, AnswersNext, EndsAmong}

-- the line behind lines
pub get_here : (lines others : List (List ℕ)) (line : List ℕ) → slice_get (lines ++ line ∷ others) (length lines) ≡ Some line
get_here [] others line = refl
get_here (first ∷ lines) others line = get_here lines others line

module _ {S : Type 0} (lawful : Lawful S) where
  -- what answers lines and what answers more lines answer them all
  pub answers_join : (lines others : List (List ℕ)) (old between new : S) (text more : List ℕ) → IsAnswered lawful old lines text between
      → IsAnswered lawful between others more new → IsAnswered lawful old (lines ++ others) (text ++ more) new
  answers_join [] others old between new text more (nil, same) rest =
      subst (λ (t : List ℕ). IsAnswered lawful old others (t ++ more) new) (sym nil) (subst (λ (s : S). IsAnswered lawful s others more new) same rest)
  answers_join (line ∷ lines) others old between new text more (reply, later, next, replied, answered, is) rest = (
    reply,
    later ++ more,
    next,
    replied,
    answers_join lines others next between new later more answered rest,
    ap (λ (t : List ℕ). t ++ more) is ∙ append_assoc reply (10 ∷ later) more,
  )

  -- the same with one line more
  pub one_more_answer : (lines : List (List ℕ)) (line : List ℕ) (old between new : S) (text reply : List ℕ) → IsAnswered lawful old lines text between
      → IsReplied lawful between line reply new → IsAnswered lawful old (lines ++ line ∷ []) (text ++ reply ++ 10 ∷ []) new
  one_more_answer lines line old between new text reply answered replied =
      subst (λ (t : List ℕ). IsAnswered lawful old (lines ++ line ∷ []) t new) (sym (append_assoc text reply (10 ∷ [])))
      (answers_join lines (line ∷ []) old between new text (reply ++ 10 ∷ []) answered (reply, [], new, replied, (refl, refl), refl))

  -- all lines before others are the first of them
  pub take_before : (lines others : List (List ℕ)) (old new : S) (text : List ℕ) → IsAnswered lawful old lines text new
      → IsAnswered lawful old (take (length lines) (lines ++ others)) text new
  take_before lines others old new text answered = subst (λ (ls : List (List ℕ)). IsAnswered lawful old ls text new) (sym (take-append_seam lines others)) answered

  -- the first of lines stay the first where there are more lines
  take_among : (lines others : List (List ℕ)) (done : ℕ) (old new : S) (text : List ℕ) → done ≤ length lines → IsAnswered lawful old (take done lines) text new
      → IsAnswered lawful old (take done (lines ++ others)) text new
  take_among lines others done old new text le answered = subst (λ (ls : List (List ℕ)). IsAnswered lawful old ls text new) (sym (take-append-le done lines others le)) answered

  -- nothing came of what stands behind lines that are answered
  pub stops_before : (lines others : List (List ℕ)) (old new : S) (text : List ℕ) → IsAnswered lawful old lines text new → StopsBefore lawful old (lines ++ others) text new
  stops_before lines others old new text answered =
      (length lines, let e = length-append lines others in omega arith, take_before lines others old new text answered)

  -- a reply that was cut, to the line behind lines that are answered
  pub stops_within : (shared : Bool) (lines others : List (List ℕ)) (line : List ℕ) (old between new : S)
      (text more reply : List ℕ) → IsAnswered lawful old lines text between
      → IsReplied lawful between line reply new → length more < length (reply ++ 10 ∷ []) → more ≡ take (length more) (reply ++ 10 ∷ [])
      → StopsWithin shared lawful old (lines ++ line ∷ others) (text ++ more) new
  stops_within shared lines others line old between new text more reply answered replied unfinished cut = record {
    done = length lines;
    line = line;
    next = get_here lines others line;
    front = text;
    between = between;
    answered = take_before lines (line ∷ others) old between text answered;
    reply = reply;
    replied = replied;
    begun = λ alone. (let e = length-append text more in omega arith);
    unfinished = rw append_assoc (let e = length-append text more in let f = length-append text (reply ++ 10 ∷ []) in omega arith);
    cut = ap (λ (t : List ℕ). text ++ t) cut ∙ sym (take-append-add text (reply ++ 10 ∷ []) (length more))
        ∙ ap (λ (n : ℕ). take n (text ++ (reply ++ 10 ∷ []))) (sym (length-append text more))
        ∙ ap (λ (t : List ℕ). take (length (text ++ more)) t) (sym (append_assoc text reply (10 ∷ [])));
  }

  -- what was cut among lines was cut among them and more lines
  pub within_among : (shared : Bool) (lines others : List (List ℕ)) (old new : S) (text : List ℕ)
      → StopsWithin shared lawful old lines text new
      → StopsWithin shared lawful old (lines ++ others) text new
  within_among shared lines others old new text h =
      let here = slice_get_within lines h.done h.line h.next in
      record {
        done = h.done;
        line = h.line;
        next = get_append_left lines others h.done here ∙ h.next;
        front = h.front;
        between = h.between;
        answered = take_among lines others h.done old h.between h.front (omega arith) h.answered;
        reply = h.reply;
        replied = h.replied;
        begun = h.begun;
        unfinished = h.unfinished;
        cut = h.cut;
      }

  -- a fault among lines is one among them and more lines
  pub ends_among : (shared : Bool) (lines others : List (List ℕ)) (old new : S) (fault : SessionFault) (text : List ℕ)
      → EndsAmong shared lawful old lines fault text new
      → EndsAmong shared lawful old (lines ++ others) fault text new
  ends_among shared lines others old new Memory text (done, le, answered) =
      (done, let e = length-append lines others in omega arith, take_among lines others done old new text le answered)
  ends_among shared lines others old new (Write n) text within = within_among shared lines others old new text within
  ends_among shared lines others old new Foreign text (line, done, next, answered) =
      let here = slice_get_within lines done line next in
      (line, done, get_append_left lines others done here ∙ next, take_among lines others done old new text (omega arith) answered)
  ends_among shared lines others old new Unkept text (line, done, next, answered) =
      let here = slice_get_within lines done line next in
      (line, done, get_append_left lines others done here ∙ next, take_among lines others done old new text (omega arith) answered)
  ends_among shared lines others old new Read text h = absurd h
  ends_among shared lines others old new Turns text h = absurd h

-- what is sent is the reply to the line, with its line feed
pub answers_next : {S T : Type 0} (lawful : Lawful S) (old new : S) (done : ℕ) (line : Option (List ℕ))
    (reply text : List ℕ) (result : Result T SessionFault) (more : List ℕ) (after : Intake)
    → IsHeldReplied lawful old line reply new → text ≡ reply ++ 10 ∷ [] → Sends done text result more after
    → AnswersNext lawful old done line result more new after
answers_next lawful old new done line reply text (Ok _) more after replied is sends =
    record { reply = reply; replied = replied; sends = subst (λ (t : List ℕ). SendsWhole done t more after) is sends }
answers_next lawful old new done line reply text (Err (Write n)) more after replied is sends =
    record { reply = reply; replied = replied; sends = subst (λ (t : List ℕ). SendsInPart t more) is sends }
answers_next lawful old new done line reply text (Err Memory) more after replied is sends = absurd sends
answers_next lawful old new done line reply text (Err Foreign) more after replied is sends = absurd sends
answers_next lawful old new done line reply text (Err Unkept) more after replied is sends = absurd sends
answers_next lawful old new done line reply text (Err Read) more after replied is sends = absurd sends
answers_next lawful old new done line reply text (Err Turns) more after replied is sends = absurd sends

-- nothing goes out for a line without an answer
pub fails_next : {S : Type 0} (lawful : Lawful S) (old new : S) (line : Option (List ℕ)) (fault : AnswerFault)
    → new ≡ old → FailsNext lawful old line (fault_of fault) [] new
fails_next lawful old new line answer.Memory same = (refl, same)
fails_next lawful old new line answer.Foreign same = (refl, same)
fails_next lawful old new line answer.Unkept same = (refl, same)
