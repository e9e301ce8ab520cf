-- A session whose visitor asks for no hints has the lawful replies themselves.
use Rattle.std.proofs.Common.{◌≡◌, ◌∙◌, ℕ, Bool, true, false, List, [], ◌∷◌, Option, Result, Ok, Err, ap, subst, sym}
use Rattle.grove_session.specs.declared.session_fault.SessionFault.{SessionFault}
use Rattle.grove_session.specs.declared.session_fault.SessionFault.TheVariants.{Read, Write, Memory, Turns, Foreign}
use Rattle.grove_session.specs.declared.session_fault.SessionFault.TheVariants.{Unkept}
use Rattle.grove_session.specs.Sessions.{UnlessLong, IsAnswered, StopsWithin, SessionEnds}
use Rattle.grove_desk.specs.Desks.{IsShared}
use Rattle.grove_desk.specs.Hints.{CallerState, IsCallerReply, MayHint}

unhinted_line : (long : Bool) (old new : CallerState) (line reply : List ℕ) → old.hints ≡ false
    → UnlessLong IsCallerReply long old line reply new
    → UnlessLong IsShared long old.visit line reply new.visit × (new.hints ≡ false)
unhinted_line true old new line reply none (is_long, same) =
    ((is_long, ap (λ (s : CallerState). s.visit) same), ap (λ (s : CallerState). s.hints) same ∙ none)
unhinted_line false old new line reply none replied =
    let same : reply ≡ replied.lawful = subst (λ (hints : Bool). MayHint hints replied.lawful reply) none replied.hinted in
    (subst (λ (r : List ℕ). IsShared old.visit line r new.visit) (sym same) replied.shared, replied.same ∙ none)

unhinted_lines : (lines : List (List ℕ)) (old new : CallerState) (text : List ℕ) → old.hints ≡ false
    → IsAnswered IsCallerReply old lines text new
    → IsAnswered IsShared old.visit lines text new.visit × (new.hints ≡ false)
unhinted_lines [] old new text none (nil, same) =
    ((nil, ap (λ (s : CallerState). s.visit) same), ap (λ (s : CallerState). s.hints) same ∙ none)
unhinted_lines (line ∷ lines) old new text none (reply, others, between, replied, answered, is) =
    let first = unhinted_line _ old between line reply none replied in
    let rest = unhinted_lines lines between new others first.1 answered in
    ((reply, others, between.visit, first.0, rest.0, is), rest.1)

unhinted_within : (lines : List (List ℕ)) (old new : CallerState) (out : List ℕ) → old.hints ≡ false
    → StopsWithin true IsCallerReply old lines out new → StopsWithin true IsShared old.visit lines out new.visit
unhinted_within lines old new out none h =
    let front = unhinted_lines _ old h.between h.front none h.answered in
    record {
      done = h.done;
      line = h.line;
      next = h.next;
      front = h.front;
      between = h.between.visit;
      answered = front.0;
      reply = h.reply;
      replied = (unhinted_line _ h.between new h.line h.reply front.1 h.replied).0;
      begun = h.begun;
      unfinished = h.unfinished;
      cut = h.cut;
    }

pub unhinted : (old new : CallerState) (result : Result ℕ SessionFault) (left : Option (List ℕ)) (input out : List ℕ)
    → old.hints ≡ false → SessionEnds true IsCallerReply old result left input out new
    → SessionEnds true IsShared old.visit result left input out new.visit
unhinted old new (Ok n) left input out none (at_end, count, answered) =
    (at_end, count, (unhinted_lines _ old new out none answered).0)
unhinted old new (Err Read) left input out none answered = (unhinted_lines _ old new out none answered).0
unhinted old new (Err Turns) left input out none answered = (unhinted_lines _ old new out none answered).0
unhinted old new (Err (Write n)) left input out none (count, (lines, may, within)) =
    (count, (lines, may, unhinted_within lines old new out none within))
unhinted old new (Err Memory) left input out none (done, le, answered) =
    (done, le, (unhinted_lines _ old new out none answered).0)
unhinted old new (Err Foreign) left input out none (lines, line, done, may, next, answered) =
    (lines, line, done, may, next, (unhinted_lines _ old new out none answered).0)
unhinted old new (Err Unkept) left input out none (lines, line, done, may, next, answered) =
    (lines, line, done, may, next, (unhinted_lines _ old new out none answered).0)
