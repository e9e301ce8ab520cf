-- How a session goes on with the bytes that it reads.
use Rattle.std.proofs.Common.{◌≡◌, ℕ, ◌+◌, Bool, true, false, cond, List, [], ◌∷◌, ◌++◌, Option, None, Some}
use Rattle.std.proofs.Common.{Ok, Err, length, take, refl, sym, ap, subst, ◌∙◌, append_assoc, append-nil, inl, inr}
use Rattle.std.proofs.Common.{arith, length-append}
use Rattle.std.specs.Prelude.{slice_get, nat_lt}
use Rattle.std.specs.Io.KnownBytes.{IsAtEnd}
use Rattle.std.proofs.lemmas.List.{length_push}
use Rattle.std.proofs.lemmas.Bool.{cond-true, ltb-true, lt-ltb}
use Rattle.std.proofs.Math.Seq.{take-length}
use Rattle.grove_session.specs.declared.intake.Intake.{Intake}
use Rattle.grove_session.specs.declared.session_fault.SessionFault.{SessionFault}
use Rattle.grove_session.specs.declared.session_fault.SessionFault.TheVariants.{Read, Write, Memory, Turns, Foreign, Unkept}
use Rattle.grove_session.specs.Sessions.{Lawful, UnlessLong, whole_lines, rest_of, last_line, lines_of, lines_from, IsReplied, IsAnswered, StopsBefore, StopsWithin, SessionEnds}
use Rattle.grove_session.specs.Cuts.{IsFeedless}
use Rattle.grove_session.specs.Intakes.{clip, with_bytes, held_line, IsHeldReplied, RepliesWhole, FailsNext, IsApart}
use Rattle.grove_session.specs.Intakes.{Tells, IsUnderWay, EndsAmong, Continues, Breaks, Finishes}
use Rattle.grove_session.proofs.Lines.{whole_lines-feedless, rest_of-feedless, whole_lines-line, rest_of-line}
use Rattle.grove_session.proofs.Lines.{lines_from-append}
use Rattle.grove_session.proofs.Answering.{one_more_answer, get_here, take_before, stops_before, stops_within, ends_among}

-- ---- a line that is held

held_more : (b : Bool) (line bytes : List ℕ) → nat_lt 1048576 (length line) ≡ b → with_bytes (cond b None (Some line)) bytes ≡ clip (line ++ bytes)
held_more true line bytes long =
    let more = length-append line bytes in
    let less = ltb-true 1048576 (length line) long in
    sym (cond-true (nat_lt 1048576 (length (line ++ bytes))) None (Some (line ++ bytes)) (lt-ltb 1048576 (length (line ++ bytes)) (omega arith)))
held_more false line bytes short = refl

-- more bytes of a line are as many more of what is held of it
pub clip-grow : (line bytes : List ℕ) → with_bytes (clip line) bytes ≡ clip (line ++ bytes)
clip-grow line bytes = held_more (nat_lt 1048576 (length line)) line bytes refl

-- a sink that is blamed with what went out is blamed with the length of the text
pub apart_tells : (fault : SessionFault) (after : Intake) (text : List ℕ) → IsApart {T = ℕ} (Err fault) after
    → after.written ≡ length text → Tells fault text
apart_tells (Write n) after text apart written = apart ∙ written
apart_tells Read after text apart written = absurd apart
apart_tells Memory after text apart written = _
apart_tells Turns after text apart written = absurd apart
apart_tells Foreign after text apart written = _
apart_tells Unkept after text apart written = _

last_line-some : (line : List ℕ) → (line ≡ [] → ⊥) → last_line line ≡ line ∷ []
last_line-some [] some = absurd (some refl)
last_line-some (byte ∷ line) some = refl

module _ {S : Type 0} (shared : Bool) (lawful : Lawful S) where
  unless_long : (b : Bool) (old : S) (line reply : List ℕ) (new : S) → IsHeldReplied lawful old (cond b None (Some line)) reply new → UnlessLong lawful b old line reply new
  unless_long true old line reply new h = h
  unless_long false old line reply new h = h

  -- the reply to what is held of a line is one to the line
  pub held_replied : (old : S) (line reply : List ℕ) (held : Option (List ℕ)) (new : S) → held ≡ clip line → IsHeldReplied lawful old held reply new → IsReplied lawful old line reply new
  held_replied old line reply held new is h =
      unless_long (nat_lt 1048576 (length line)) old line reply new (subst (λ (it : Option (List ℕ)). IsHeldReplied lawful old it reply new) is h)

  -- what is held of a line and the bytes that end it are as much of the whole line
  ended : (first old : S) (input text bytes : List ℕ) (before : Intake) → IsUnderWay lawful first input text old before
      → with_bytes (held_line before.line) bytes ≡ clip (rest_of input ++ bytes)
  ended first old input text bytes before h =
      ap (λ (it : Option (List ℕ)). with_bytes it bytes) h.held ∙ clip-grow (rest_of input) bytes

  -- a line that was begun and ends with these bytes is one answer more
  answered_with : (first old new : S) (input text bytes more : List ℕ) (before after : Intake)
      → IsUnderWay lawful first input text old before
      → RepliesWhole lawful old before.answered (with_bytes (held_line before.line) bytes) more new after
      → IsAnswered lawful first (whole_lines input ++ (rest_of input ++ bytes) ∷ []) (text ++ more) new
  answered_with first old new input text bytes more before after h whole =
      let line = rest_of input ++ bytes in
      subst (λ (t : List ℕ). IsAnswered lawful first (whole_lines input ++ line ∷ []) t new)
      (append_assoc text whole.reply (10 ∷ []) ∙ ap (λ (t : List ℕ). text ++ t) (sym whole.sends.sent))
      (one_more_answer lawful (whole_lines input) line first old new text whole.reply h.answers
      (held_replied old line whole.reply _ new (ended first old input text bytes before h) whole.replied))

  -- ---- nothing, and one after the other

  pub continues_nothing : (old : S) (before : Intake) → Continues lawful old before [] [] old before
  continues_nothing old before = record {
    on = λ first input text h. subst (λ (i : List ℕ). IsUnderWay lawful first i (text ++ []) old before) (sym (append-nil input))
        (subst (λ (t : List ℕ). IsUnderWay lawful first input t old before) (sym (append-nil text)) h);
  }

  pub continues_then : (old mid new : S) (before between after : Intake) (xs ys more others : List ℕ) → Continues lawful old before xs more mid between
      → Continues lawful mid between ys others new after → Continues lawful old before (xs ++ ys) (more ++ others) new after
  continues_then old mid new before between after xs ys more others one two = record {
    on = λ first input text h. subst (λ (i : List ℕ). IsUnderWay lawful first i (text ++ (more ++ others)) new after) (append_assoc input xs ys)
        (subst (λ (t : List ℕ). IsUnderWay lawful first (input ++ xs ++ ys) t new after) (append_assoc text more others)
        (two.on first (input ++ xs) (text ++ more) (one.on first input text h)));
  }

  -- the same of an equal state
  pub continues_as : (old mid same : S) (before between : Intake) (xs more : List ℕ) → same ≡ mid
      → Continues lawful old before xs more mid between → Continues lawful old before xs more same between
  continues_as old mid same before between xs more is one =
      subst (λ (s : S). Continues lawful old before xs more s between) (sym is) one

  pub breaks_then : (old mid new : S) (before between : Intake) (xs ys more others : List ℕ) (fault : SessionFault) → Continues lawful old before xs more mid between
      → Breaks shared lawful mid between ys others fault new
      → Breaks shared lawful old before (xs ++ ys) (more ++ others) fault new
  breaks_then old mid new before between xs ys more others fault one two = record {
    off = λ first input text h. subst (λ (i : List ℕ). EndsAmong shared lawful first (whole_lines i) fault
        (text ++ (more ++ others)) new) (append_assoc input xs ys)
        (subst (λ (t : List ℕ). EndsAmong shared lawful first (whole_lines (input ++ xs ++ ys)) fault t new)
        (append_assoc text more others)
        (two.off first (input ++ xs) (text ++ more) (one.on first input text h)));
  }

  -- a fault among the first of some bytes is one among them all
  pub breaks_early : (old new : S) (before : Intake) (xs ys more : List ℕ) (fault : SessionFault)
      → Breaks shared lawful old before xs more fault new
      → Breaks shared lawful old before (xs ++ ys) more fault new
  breaks_early old new before xs ys more fault h = record {
    off = λ first input text under. subst (λ (ls : List (List ℕ)).
        EndsAmong shared lawful first ls fault (text ++ more) new)
        (sym (lines_from-append [] (input ++ xs) ys) ∙ ap whole_lines (append_assoc input xs ys))
        (ends_among lawful shared (whole_lines (input ++ xs)) (lines_from (rest_of (input ++ xs)) ys) first new fault
        (text ++ more) (h.off first input text under));
  }

  -- ---- bytes of one line, and a line feed

  -- bytes without a line feed are held
  pub bytes_go : (old : S) (before after : Intake) (bytes : List ℕ) → IsFeedless bytes → held_line after.line ≡ with_bytes (held_line before.line) bytes
      → after.answered ≡ before.answered → Continues lawful old before bytes [] old after
  bytes_go old before after bytes none held answered = record {
    on = λ first input text h. record {
      answers = subst (λ (ls : List (List ℕ)). IsAnswered lawful first ls (text ++ []) old) (sym (whole_lines-feedless input bytes none))
          (subst (λ (t : List ℕ). IsAnswered lawful first (whole_lines input) t old) (sym (append-nil text)) h.answers);
      held = held ∙ ap (λ (it : Option (List ℕ)). with_bytes it bytes) h.held ∙ clip-grow (rest_of input) bytes ∙ ap clip (sym (rest_of-feedless input bytes none));
      answered = answered ∙ h.answered ∙ ap (length {A = List ℕ}) (sym (whole_lines-feedless input bytes none));
    };
  }

  -- bytes that went, and a rest that is held
  pub rest_goes : (old mid : S) (before between after : Intake) (front rest bytes more : List ℕ) → front ++ rest ≡ bytes → Continues lawful old before front more mid between
      → Continues lawful mid between rest [] mid after → Continues lawful old before bytes (more ++ []) mid after
  rest_goes old mid before between after front rest bytes more all one two =
      subst (λ (it : List ℕ). Continues lawful old before it (more ++ []) mid after) all (continues_then old mid mid before between after front rest more [] one two)

  -- bytes and a line feed, whose line is answered
  pub line_goes : (old new : S) (before after : Intake) (bytes more : List ℕ) → IsFeedless bytes
      → RepliesWhole lawful old before.answered (with_bytes (held_line before.line) bytes) more new after
      → Continues lawful old before (bytes ++ 10 ∷ []) more new after
  line_goes old new before after bytes more none whole = record {
    on = λ first input text h.
        let lines = whole_lines-line input bytes none in
        record {
          answers = subst (λ (ls : List (List ℕ)). IsAnswered lawful first ls (text ++ more) new) (sym lines)
              (answered_with first old new input text bytes more before after h whole);
          held = whole.sends.fresh ∙ ap clip (sym (rest_of-line input bytes));
          answered = whole.sends.answered ∙ ap (λ (n : ℕ). n + 1) h.answered
              ∙ sym (length_push (whole_lines input) (rest_of input ++ bytes))
              ∙ ap (length {A = List ℕ}) (sym lines);
        };
  }

  -- ---- faults

  -- where nothing went out and nothing changed, what was answered still is all
  still : (first old new : S) (input text more : List ℕ) (before : Intake) → IsUnderWay lawful first input text old before → more ≡ [] → new ≡ old
      → IsAnswered lawful first (whole_lines input) (text ++ more) new
  still first old new input text more before h none same =
      subst (λ (t : List ℕ). IsAnswered lawful first (whole_lines input) t new) (sym (append-nil text) ∙ ap (λ (t : List ℕ). text ++ t) (sym none))
      (subst (λ (s : S). IsAnswered lawful first (whole_lines input) text s) (sym same) h.answers)

  -- a line that was begun and ends with these bytes has no reply, or one that didn't go out whole
  among : (first old new : S) (input text bytes more : List ℕ) (others : List (List ℕ)) (before : Intake)
      (fault : SessionFault) → IsUnderWay lawful first input text old before
      → FailsNext lawful old (with_bytes (held_line before.line) bytes) fault more new
      → EndsAmong shared lawful first (whole_lines input ++ (rest_of input ++ bytes) ∷ others) fault (text ++ more) new
  among first old new input text bytes more others before (Write n) h part =
      let line = rest_of input ++ bytes in
      stops_within lawful shared (whole_lines input) others line first old new text more part.reply h.answers
      (held_replied old line part.reply _ new (ended first old input text bytes before h) part.replied)
      part.sends.unfinished part.sends.cut
  among first old new input text bytes more others before Memory h (none, same) =
      stops_before lawful (whole_lines input) ((rest_of input ++ bytes) ∷ others) first new (text ++ more)
      (still first old new input text more before h none same)
  among first old new input text bytes more others before Foreign h (none, same) = (
    rest_of input ++ bytes,
    length (whole_lines input),
    get_here (whole_lines input) others (rest_of input ++ bytes),
    take_before lawful (whole_lines input) ((rest_of input ++ bytes) ∷ others) first new (text ++ more)
        (still first old new input text more before h none same),
  )
  among first old new input text bytes more others before Unkept h (none, same) = (
    rest_of input ++ bytes,
    length (whole_lines input),
    get_here (whole_lines input) others (rest_of input ++ bytes),
    take_before lawful (whole_lines input) ((rest_of input ++ bytes) ∷ others) first new (text ++ more)
        (still first old new input text more before h none same),
  )
  among first old new input text bytes more others before Read h none = absurd none
  among first old new input text bytes more others before Turns h none = absurd none

  -- bytes and a line feed, whose line isn't answered whole
  pub line_breaks : (old new : S) (before : Intake) (bytes more : List ℕ) (fault : SessionFault) → IsFeedless bytes
      → FailsNext lawful old (with_bytes (held_line before.line) bytes) fault more new
      → Breaks shared lawful old before (bytes ++ 10 ∷ []) more fault new
  line_breaks old new before bytes more fault none h = record {
    off = λ first input text under. subst (λ (ls : List (List ℕ)).
        EndsAmong shared lawful first ls fault (text ++ more) new) (sym (whole_lines-line input bytes none))
        (among first old new input text bytes more [] before fault under h);
  }

  -- bytes for which there is no room
  pub no_room_breaks : (old : S) (before : Intake) (bytes : List ℕ)
      → Breaks shared lawful old before bytes [] Memory old
  no_room_breaks old before bytes = record {
    off = λ first input text under. subst (λ (ls : List (List ℕ)). StopsBefore lawful first ls (text ++ []) old) (sym (lines_from-append [] input bytes))
        (stops_before lawful (whole_lines input) (lines_from (rest_of input) bytes) first old (text ++ []) (still first old old input text [] before under refl refl));
  }

  -- ---- ends

  -- a fault among the whole lines ends the session
  pub ends_so : (first new : S) (left : Option (List ℕ)) (input text : List ℕ) (fault : SessionFault)
      → EndsAmong shared lawful first (whole_lines input) fault text new
      → Tells fault text → SessionEnds shared lawful first (Err fault) left input text new
  ends_so first new left input text (Write n) within counted = (counted, (whole_lines input, inl refl, within))
  ends_so first new left input text Memory stops counted = stops
  ends_so first new left input text Foreign (line, done, next, answered) counted =
      (whole_lines input, line, done, inl refl, next, answered)
  ends_so first new left input text Unkept (line, done, next, answered) counted =
      (whole_lines input, line, done, inl refl, next, answered)
  ends_so first new left input text Read h counted = absurd h
  ends_so first new left input text Turns h counted = absurd h

  -- a fault among the lines with the last one, which isn't answered, ends the session
  ends_last : (first old new : S) (left : Option (List ℕ)) (input text more : List ℕ) (before : Intake)
      (fault : SessionFault) → IsAtEnd left → lines_of input ≡ whole_lines input ++ (rest_of input ++ []) ∷ []
      → IsUnderWay lawful first input text old before
      → FailsNext lawful old (with_bytes (held_line before.line) []) fault more new → Tells fault (text ++ more)
      → SessionEnds shared lawful first (Err fault) left input (text ++ more) new
  ends_last first old new left input text more before (Write n) at_end all under h counted =
      let within = among first old new input text [] more [] before (Write n) under h in (
        counted,
        (
          lines_of input,
          inr (at_end, refl),
          subst (λ (ls : List (List ℕ)). StopsWithin shared lawful first ls (text ++ more) new) (sym all) within,
        ),
      )
  ends_last first old new left input text more before Memory at_end all under (none, same) counted =
      let answered = still first old new input text more before under none same in (
        length (whole_lines input),
        omega arith,
        subst (λ (ls : List (List ℕ)).
            IsAnswered lawful first ls (text ++ more) new) (sym (take-length (whole_lines input))) answered,
      )
  ends_last first old new left input text more before Foreign at_end all under h counted =
      let (line, done, next, answered) = among first old new input text [] more [] before Foreign under h in (
        lines_of input,
        line,
        done,
        inr (at_end, refl),
        ap (λ (ls : List (List ℕ)). slice_get ls done) all ∙ next,
        subst (λ (ls : List (List ℕ)). IsAnswered lawful first (take done ls) (text ++ more) new) (sym all) answered,
      )
  ends_last first old new left input text more before Unkept at_end all under h counted =
      let (line, done, next, answered) = among first old new input text [] more [] before Unkept under h in (
        lines_of input,
        line,
        done,
        inr (at_end, refl),
        ap (λ (ls : List (List ℕ)). slice_get ls done) all ∙ next,
        subst (λ (ls : List (List ℕ)). IsAnswered lawful first (take done ls) (text ++ more) new) (sym all) answered,
      )
  ends_last first old new left input text more before Read at_end all under h counted = absurd h
  ends_last first old new left input text more before Turns at_end all under h counted = absurd h

  -- a line that is held is a last one, and ends with no more bytes
  lines_with_last : (first old : S) (input text : List ℕ) (before : Intake)
      → IsUnderWay lawful first input text old before → (held_line before.line ≡ Some [] → ⊥)
      → lines_of input ≡ whole_lines input ++ (rest_of input ++ []) ∷ []
  lines_with_last first old input text before under some =
      ap (λ (ls : List (List ℕ)). whole_lines input ++ ls)
      (last_line-some (rest_of input) (λ none. some (under.held ∙ ap clip none))
      ∙ ap (λ (line : List ℕ). line ∷ []) (sym (append-nil (rest_of input))))

  -- the last line is answered
  pub finishes_with_last : (old new : S) (before after : Intake) (more : List ℕ)
      → (held_line before.line ≡ Some [] → ⊥)
      → RepliesWhole lawful old before.answered (with_bytes (held_line before.line) []) more new after
      → Finishes shared lawful old before (Ok after.answered) more new after
  finishes_with_last old new before after more some whole = record {
    ends = λ first input text left under at_end written apart.
        let all = lines_with_last first old input text before under some in (
          at_end,
          whole.sends.answered ∙ ap (λ (n : ℕ). n + 1) under.answered
              ∙ sym (length_push (whole_lines input) (rest_of input ++ [])) ∙ ap (length {A = List ℕ}) (sym all),
          subst (λ (ls : List (List ℕ)). IsAnswered lawful first ls (text ++ more) new) (sym all)
              (answered_with first old new input text [] more before after under whole),
        );
  }

  -- the last line isn't answered whole
  pub finishes_in_part : (old new : S) (before after : Intake) (more : List ℕ) (fault : SessionFault)
      → (held_line before.line ≡ Some [] → ⊥)
      → FailsNext lawful old (with_bytes (held_line before.line) []) fault more new
      → Finishes shared lawful old before (Err fault) more new after
  finishes_in_part old new before after more fault some h = record {
    ends = λ first input text left under at_end written apart.
        ends_last first old new left input text more before fault at_end
        (lines_with_last first old input text before under some) under h
        (apart_tells fault after (text ++ more) apart written);
  }
