-- Replies that are held back: what went out of them, and what a session says once the rest goes out or doesn't.
use Rattle.std.proofs.Common.{◌≡◌, ℕ, suc, ◌+◌, ◌<◌, ◌≤◌, Bool, true, false, List, [], ◌∷◌, ◌++◌, Some, length, take}
use Rattle.std.proofs.Common.{drop, Option, Result, Ok, Err, refl, sym, ap, subst, ◌∙◌, append_assoc, append-nil}
use Rattle.std.proofs.Common.{take-append-drop, arith, length-append, inl, inr}
use Rattle.std.specs.Prelude.{slice_get}
use Rattle.std.specs.Io.KnownBytes.{Appends}
use Rattle.std.proofs.KnownBytes.{Appends-nil, Appends-trans}
use Rattle.std.proofs.lemmas.Bool.{false≢true}
use Rattle.std.proofs.lemmas.List.{length-take-le}
use Rattle.std.proofs.Math.Seq.{take-append_seam}
use Rattle.grove_session.specs.declared.intake.Intake.{Intake}
use Rattle.grove_session.specs.declared.session_fault.SessionFault.{SessionFault}
use Rattle.grove_session.specs.declared.session_fault.SessionFault.TheVariants.{Read, Write, Memory, Turns, Foreign, Unkept}
use Rattle.grove_session.specs.Sessions.{Lawful, whole_lines, IsReplied, IsAnswered, StopsWithin, is_write}
use Rattle.grove_session.specs.Intakes.{held_line, GoesOut, Sends, SendsInPart, IsUnderWay, EndsAmong, Continues}
use Rattle.grove_session.specs.Intakes.{Breaks, TakesBytes, Passes, Settles}
use Rattle.grove_session.proofs.Answering.{within_among}

-- ---- what went out and what is held

pub goes_nothing : (a : Option (List ℕ)) (held : List ℕ) (written : ℕ) → GoesOut a a held written [] held written
goes_nothing a held written = record {
  sent = [];
  went = Appends-nil a;
  rest = sym (append-nil held);
  counted = omega arith;
}

pub goes_then : (a b c : Option (List ℕ)) (held still left : List ℕ) (written count last : ℕ) (more others : List ℕ)
    → GoesOut a b held written more still count
    → GoesOut b c still count others left last → GoesOut a c held written (more ++ others) left last
goes_then a b c held still left written count last more others one two = record {
  sent = one.sent ++ two.sent;
  went = Appends-trans a b c one.sent two.sent one.went two.went;
  rest = append_assoc one.sent two.sent left ∙ ap (λ (t : List ℕ). one.sent ++ t) two.rest
      ∙ sym (append_assoc one.sent still others) ∙ ap (λ (t : List ℕ). t ++ others) one.rest
      ∙ append_assoc held more others;
  counted = two.counted ∙ ap (λ (n : ℕ). n + length two.sent) one.counted
      ∙ (let e = length-append one.sent two.sent in omega arith);
}

-- bytes for which there is no room
pub nothing_held : (held : List ℕ) (most : ℕ) → length held ≤ most → most ≡ 0 → held ≡ []
nothing_held [] most few none = refl
nothing_held (byte ∷ held) most few none = absurd (omega arith)

-- what is held by another name
pub goes_from : (a b : Option (List ℕ)) (held other still : List ℕ) (written count : ℕ) (more : List ℕ)
    → GoesOut a b held written more still count → held ≡ other
    → GoesOut a b other written more still count
goes_from a b held other still written count more p is =
    subst (λ (it : List ℕ). GoesOut a b it written more still count) is p

-- where nothing is held, more bytes went out
pub goes_text : (a b : Option (List ℕ)) (held : List ℕ) (written count : ℕ) (more : List ℕ) → Appends a b more → held
    ≡ [] → count ≡ written + length more
    → GoesOut a b held written more held count
goes_text a b held written count more went none counted = record {
  sent = more;
  went = went;
  rest = ap (λ (t : List ℕ). more ++ t) none ∙ append-nil more ∙ sym (ap (λ (t : List ℕ). t ++ more) none);
  counted = counted;
}

-- of a text that didn't go out nothing did
pub sends_nothing : (done : ℕ) (after : Intake) (text : List ℕ) (fault : SessionFault)
    → is_write {T = Unit {0}} (Err fault) ≡ true → 0 < length text
    → Sends {T = Unit {0}} done text (Err fault) [] after
sends_nothing done after text (Write n) is some = record { unfinished = some; cut = refl }
sends_nothing done after text Read is some = absurd (false≢true is)
sends_nothing done after text Memory is some = absurd (false≢true is)
sends_nothing done after text Turns is some = absurd (false≢true is)
sends_nothing done after text Foreign is some = absurd (false≢true is)
sends_nothing done after text Unkept is some = absurd (false≢true is)

-- the first bytes of a text
pub part_of : (n : ℕ) (text : List ℕ) → n < length text → SendsInPart text (take n text)
part_of n text less =
    let count : length (take n text) ≡ n = length-take-le n text (omega arith) in
    record { unfinished = omega arith; cut = ap (λ (k : ℕ). take k text) (sym count) }

-- where nothing was held, what went out and what is held now is all that is more
pub goes_all : (a b : Option (List ℕ)) (held still : List ℕ) (written count : ℕ) (more : List ℕ)
    (p : GoesOut a b held written more still count) → held ≡ []
    → more ≡ p.sent ++ still
goes_all a b held still written count more p none = sym (p.rest ∙ ap (λ (t : List ℕ). t ++ more) none)

-- where nothing is held before or after, more went out and nothing else
pub goes_whole : (a b : Option (List ℕ)) (held still : List ℕ) (written count : ℕ) (more : List ℕ)
    → GoesOut a b held written more still count → held ≡ []
    → still ≡ [] → Appends a b more × (count ≡ written + length more)
goes_whole a b held still written count more p none left =
    let same : p.sent ≡ more = sym (goes_all a b held still written count more p none
    ∙ ap (λ (t : List ℕ). p.sent ++ t) left ∙ append-nil p.sent) in
    (subst (Appends a b) same p.went, p.counted ∙ ap (λ (t : List ℕ). written + length t) same)

-- ---- a text that is cut

-- the last of the lines that a text answers
record LastAnswered {S : Type 0} (lawful : Lawful S) (old : S) (lines : List (List ℕ)) (text : List ℕ)
    (new : S) : Type 0 where
  pub done : ℕ
  pub line : List ℕ
  pub next : slice_get lines done ≡ Some line
  pub front : List ℕ
  pub between : S
  pub answered : IsAnswered lawful old (take done lines) front between
  pub reply : List ℕ
  pub replied : IsReplied lawful between line reply new
  pub whole : text ≡ front ++ (reply ++ 10 ∷ [])

module _ {S : Type 0} (shared : Bool) (lawful : Lawful S) where
  last_answered : (line : List ℕ) (lines : List (List ℕ)) (old : S) (text : List ℕ) (new : S)
      → IsAnswered lawful old (line ∷ lines) text new
      → LastAnswered lawful old (line ∷ lines) text new
  last_answered line [] old text new (reply, others, between, replied, (nil, same), is) = record {
    done = 0;
    line = line;
    next = refl;
    front = [];
    between = old;
    answered = (refl, refl);
    reply = reply;
    replied = subst (λ (s : S). IsReplied lawful old line reply s) (sym same) replied;
    whole = is ∙ ap (λ (t : List ℕ). reply ++ 10 ∷ t) nil;
  }
  last_answered line (other ∷ lines) old text new (reply, others, between, replied, answered, is) =
      let last = last_answered other lines between others new answered in
      record {
        done = suc last.done;
        line = last.line;
        next = last.next;
        front = reply ++ 10 ∷ last.front;
        between = last.between;
        answered = (reply, last.front, between, replied, last.answered, refl);
        reply = last.reply;
        replied = last.replied;
        whole = is ∙ ap (λ (t : List ℕ). reply ++ 10 ∷ t) last.whole
            ∙ sym (append_assoc reply (10 ∷ last.front) (last.reply ++ 10 ∷ []));
      }

  -- the text of all lines didn't go out whole
  cut_text : (lines : List (List ℕ)) (old new : S) (text out rest : List ℕ) → IsAnswered lawful old lines text new
      → text ≡ out ++ rest → 0 < length rest
      → (shared ≡ false → rest ≡ []) → StopsWithin shared lawful old lines out new
  cut_text [] old new text out rest (nil, same) is some alone =
      absurd (let e = length-append out rest in let none : length (out ++ rest)
      ≡ 0 = ap (length {A = ℕ}) (sym is ∙ nil) in omega arith)
  cut_text (line ∷ lines) old new text out rest answered is some alone =
      let last = last_answered line lines old text new answered in
      let whole : out ++ rest ≡ last.front ++ last.reply ++ 10 ∷ [] = sym is ∙ last.whole
      ∙ sym (append_assoc last.front last.reply (10 ∷ [])) in
      record {
        done = last.done;
        line = last.line;
        next = last.next;
        front = last.front;
        between = last.between;
        answered = last.answered;
        reply = last.reply;
        replied = last.replied;
        begun = λ by_itself. absurd (let none : length rest ≡ 0 = ap (length {A = ℕ}) (alone by_itself) in omega arith);
        unfinished = subst (λ (t : List ℕ). length out < length t) whole
            (let e = length-append out rest in omega arith);
        cut = sym (take-append_seam out rest) ∙ ap (λ (t : List ℕ). take (length out) t) whole;
      }

  -- what was cut is cut earlier
  cut_further : (lines : List (List ℕ)) (old new : S) (text out rest : List ℕ)
      → StopsWithin shared lawful old lines text new → text ≡ out ++ rest
      → (shared ≡ false → rest ≡ []) → StopsWithin shared lawful old lines out new
  cut_further lines old new text out rest h is alone =
      let full = h.front ++ h.reply ++ 10 ∷ [] in
      let behind = drop (length text) full in
      let whole : out ++ (rest ++ behind) ≡ full =
      sym (append_assoc out rest behind) ∙ ap (λ (t : List ℕ). t ++ behind) (sym is ∙ h.cut)
      ∙ take-append-drop (length text) full in
      let more : length text ≡ length (out ++ rest) = ap (length {A = ℕ}) is in
      let each = length-append out rest in
      let before = h.unfinished in
      record {
        done = h.done;
        line = h.line;
        next = h.next;
        front = h.front;
        between = h.between;
        answered = h.answered;
        reply = h.reply;
        replied = h.replied;
        begun = λ by_itself. subst (λ (t : List ℕ). length h.front ≤ length t)
            (is ∙ ap (λ (t : List ℕ). out ++ t) (alone by_itself) ∙ append-nil out) (h.begun by_itself);
        unfinished = omega arith;
        cut = sym (take-append_seam out (rest ++ behind)) ∙ ap (λ (t : List ℕ). take (length out) t) whole;
      }

  -- the first of some lines are those, and the text of theirs didn't go out whole
  cut_among : (lines : List (List ℕ)) (done : ℕ) (old new : S) (text out rest : List ℕ)
      → IsAnswered lawful old (take done lines) text new → text ≡ out ++ rest
      → 0 < length rest → (shared ≡ false → rest ≡ []) → StopsWithin shared lawful old lines out new
  cut_among lines done old new text out rest answered is some alone =
      subst (λ (ls : List (List ℕ)). StopsWithin shared lawful old ls out new) (take-append-drop done lines)
      (within_among lawful shared (take done lines) (drop done lines) old new out
      (cut_text (take done lines) old new text out rest answered is some alone))

  -- a fault, and what was answered before it didn't go out whole
  ends_cut : (lines : List (List ℕ)) (old new : S) (fault : SessionFault) (text out rest : List ℕ)
      → EndsAmong shared lawful old lines fault text new
      → text ≡ out ++ rest → 0 < length rest → (shared ≡ false → rest ≡ [])
      → StopsWithin shared lawful old lines out new
  ends_cut lines old new Memory text out rest (done, le, answered) is some alone =
      cut_among lines done old new text out rest answered is some alone
  ends_cut lines old new Foreign text out rest (line, done, next, answered) is some alone =
      cut_among lines done old new text out rest answered is some alone
  ends_cut lines old new Unkept text out rest (line, done, next, answered) is some alone =
      cut_among lines done old new text out rest answered is some alone
  ends_cut lines old new (Write n) text out rest within is some alone =
      cut_further lines old new text out rest within is alone
  ends_cut lines old new Read text out rest h is some alone = absurd h
  ends_cut lines old new Turns text out rest h is some alone = absurd h

  -- ---- bytes that were taken, once what is held goes out

  -- a text behind another one, cut where it is cut
  behind_text : (text more out rest : List ℕ) → more ≡ out ++ rest → text ++ more ≡ (text ++ out) ++ rest
  behind_text text more out rest is = ap (λ (t : List ℕ). text ++ t) is ∙ sym (append_assoc text out rest)

  -- what was said of all that was answered is said of what went out, where that is all
  out_whole : (old new : S) (before between after : Intake) (bytes more out : List ℕ)
      → Continues lawful old before bytes more new between → more ≡ out
      → after.line ≡ between.line → after.answered ≡ between.answered → Continues lawful old before bytes out new after
  out_whole old new before between after bytes more out gone is line answered = record {
    on = λ first input text h.
        let under = gone.on first input text h in
        subst (λ (t : List ℕ). IsUnderWay lawful first (input ++ bytes) (text ++ t) new after) is (record {
          answers = under.answers;
          held = ap held_line line ∙ under.held;
          answered = answered ∙ under.answered;
        });
  }

  no_rest : (more out rest : List ℕ) → more ≡ out ++ rest → rest ≡ [] → more ≡ out
  no_rest more out rest is none = is ∙ ap (λ (t : List ℕ). out ++ t) none ∙ append-nil out

  -- a fault ends what was taken, and nothing is held, or its write was cut
  out_as : (old new : S) (before : Intake) (bytes more out rest : List ℕ) (fault : SessionFault)
      → Breaks shared lawful old before bytes more fault new → more ≡ out ++ rest
      → (is_write {T = Unit {0}} (Err fault) ≡ false → rest ≡ []) → (shared ≡ false → rest ≡ [])
      → Breaks shared lawful old before bytes out fault new
  out_as old new before bytes more out rest (Write n) broken is none alone = record {
    off = λ first input text h. cut_further (whole_lines (input ++ bytes)) first new (text ++ more) (text ++ out) rest
        (broken.off first input text h)
        (behind_text text more out rest is) alone;
  }
  out_as old new before bytes more out rest Memory broken is none alone =
      subst (λ (t : List ℕ). Breaks shared lawful old before bytes t Memory new)
      (no_rest more out rest is (none refl)) broken
  out_as old new before bytes more out rest Foreign broken is none alone =
      subst (λ (t : List ℕ). Breaks shared lawful old before bytes t Foreign new)
      (no_rest more out rest is (none refl)) broken
  out_as old new before bytes more out rest Unkept broken is none alone =
      subst (λ (t : List ℕ). Breaks shared lawful old before bytes t Unkept new)
      (no_rest more out rest is (none refl)) broken
  out_as old new before bytes more out rest Read broken is none alone =
      subst (λ (t : List ℕ). Breaks shared lawful old before bytes t Read new) (no_rest more out rest is (none refl))
      broken
  out_as old new before bytes more out rest Turns broken is none alone =
      subst (λ (t : List ℕ). Breaks shared lawful old before bytes t Turns new) (no_rest more out rest is (none refl))
      broken

  -- bytes were taken so, and what was held went out, unless a write was cut
  takes_out : (old new : S) (before between after : Intake) (bytes more out : List ℕ)
      (taken : Result (Unit {0}) SessionFault)
      → TakesBytes shared lawful old before bytes taken more new between → more ≡ out ++ after.held.items
      → (is_write taken ≡ false → after.held.items ≡ [])
      → (shared ≡ false → after.held.items ≡ []) → after.line ≡ between.line → after.answered ≡ between.answered
      → TakesBytes shared lawful old before bytes taken out new after
  takes_out old new before between after bytes more out (Ok done) gone is none alone line answered =
      out_whole old new before between after bytes more out gone (no_rest more out after.held.items is (none refl))
      line answered
  takes_out old new before between after bytes more out (Err fault) broken is none alone line answered =
      out_as old new before bytes more out after.held.items fault broken is none alone

  -- bytes were taken so, and what was held didn't go out whole
  takes_cut_so : (old new : S) (before between : Intake) (bytes more out rest : List ℕ)
      (taken : Result (Unit {0}) SessionFault) (n : ℕ)
      → TakesBytes shared lawful old before bytes taken more new between → more ≡ out ++ rest → 0 < length rest
      → (shared ≡ false → rest ≡ []) → Breaks shared lawful old before bytes out (Write n) new
  takes_cut_so old new before between bytes more out rest (Ok done) n gone is some alone = record {
    off = λ first input text h. cut_text (whole_lines (input ++ bytes)) first new (text ++ more) (text ++ out) rest
        (gone.on first input text h).answers
        (behind_text text more out rest is) some alone;
  }
  takes_cut_so old new before between bytes more out rest (Err fault) n broken is some alone = record {
    off = λ first input text h. ends_cut (whole_lines (input ++ bytes)) first new fault (text ++ more) (text ++ out)
        rest (broken.off first input text h)
        (behind_text text more out rest is) some alone;
  }

  takes_cut : (old new : S) (before between : Intake) (bytes more out rest : List ℕ)
      (taken : Result (Unit {0}) SessionFault) (fault : SessionFault)
      → TakesBytes shared lawful old before bytes taken more new between → more ≡ out ++ rest
      → (is_write {T = Unit {0}} (Err fault) ≡ true) × (0 < length rest)
      → (shared ≡ false → rest ≡ []) → Breaks shared lawful old before bytes out fault new
  takes_cut old new before between bytes more out rest taken (Write n) takes is (cut, some) alone =
      takes_cut_so old new before between bytes more out rest taken n takes is some alone
  takes_cut old new before between bytes more out rest taken Read takes is (cut, some) alone = absurd (false≢true cut)
  takes_cut old new before between bytes more out rest taken Memory takes is (cut, some) alone = absurd (false≢true cut)
  takes_cut old new before between bytes more out rest taken Turns takes is (cut, some) alone = absurd (false≢true cut)
  takes_cut old new before between bytes more out rest taken Foreign takes is (cut, some) alone =
      absurd (false≢true cut)
  takes_cut old new before between bytes more out rest taken Unkept takes is (cut, some) alone =
      absurd (false≢true cut)

  -- what was said of the bytes that were taken is said of them once what was held is settled
  takes_settled : (old new : S) (before between after : Intake) (bytes more out : List ℕ)
      (taken result : Result (Unit {0}) SessionFault)
      → TakesBytes shared lawful old before bytes taken more new between → more ≡ out ++ after.held.items
      → Settles taken after.held.items result
      → (shared ≡ false → after.held.items ≡ []) → after.line ≡ between.line → after.answered ≡ between.answered
      → TakesBytes shared lawful old before bytes result out new after
  takes_settled old new before between after bytes more out taken result takes is (inl (same, none)) alone line
      answered =
      subst (λ (it : Result (Unit {0}) SessionFault). TakesBytes shared lawful old before bytes it out new after) same
      (takes_out old new before between after bytes more out taken takes is none alone line answered)
  takes_settled old new before between after bytes more out taken (Err fault) takes is (inr cut) alone line answered =
      takes_cut old new before between bytes more out after.held.items taken fault takes is cut alone
  takes_settled old new before between after bytes more out taken (Ok done) takes is (inr (cut, some)) alone line
      answered =
      absurd (false≢true cut)

  -- what went out of it all, where nothing was held before the bytes
  pub settled : (a b c : Option (List ℕ)) (old new : S) (before between after : Intake) (bytes more : List ℕ)
      (taken result : Result (Unit {0}) SessionFault)
      → Passes a b before more between → TakesBytes shared lawful old before bytes taken more new between
      → Passes b c between [] after → Settles taken after.held.items result
      → (after.line ≡ between.line) × (after.answered ≡ between.answered) × (after.most_held ≡ between.most_held)
      → between.most_held ≡ before.most_held → before.held.items ≡ [] → (shared ≡ false → before.most_held ≡ 0)
      → (out : List ℕ) × Appends a c out × (after.written ≡ before.written + length out)
      × TakesBytes shared lawful old before bytes result out new after
  settled a b c old new before between after bytes more taken result one takes two settles (line, answered, most) same
      none alone =
      let both = goes_then a b c _ _ _ _ _ _ more [] one two in
      let is = sym (append-nil more) ∙ goes_all a c _ _ _ _ _ both none in (
        both.sent,
        both.went,
        both.counted,
        takes_settled old new before between after bytes more both.sent taken result takes is settles
            (λ by_itself. nothing_held after.held.items after.most_held after.few_held (most ∙ same ∙ alone by_itself))
            line answered,
      )
