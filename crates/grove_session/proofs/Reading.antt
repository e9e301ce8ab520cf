-- What a session has read and written, and what it blames.
use Rattle.std.proofs.Common.{◌≡◌, ℕ, ◌+◌, Bool, false, List, [], ◌++◌, Option, Result, Ok, Err, length, refl, sym}
use Rattle.std.proofs.Common.{ap, subst, ◌∙◌, append-nil, length-append}
use Rattle.std.specs.Io.KnownBytes.{Appends, Consumes, IsAtEnd}
use Rattle.std.proofs.KnownBytes.{Appends-trans, Consumes-trans}
use Rattle.grove_session.specs.declared.intake.Intake.{Intake}
use Rattle.grove_session.specs.declared.session_fault.SessionFault.{SessionFault}
use Rattle.grove_session.specs.declared.session_fault.SessionFault.TheVariants.{Read, Write, Memory, Turns, Foreign, Unkept}
use Rattle.grove_session.specs.Sessions.{Lawful, SessionEnds, is_read}
use Rattle.grove_session.specs.Intakes.{IsApart, IsUnderWay, Breaks, Finishes}
use Rattle.grove_session.proofs.Going.{ends_so, apart_tells}

-- a fault that isn't the source's doesn't blame it
pub apart_from_read : {T : Type 0} (result : Result T SessionFault) (intake : Intake) → IsApart result intake
    → is_read result ≡ false
apart_from_read (Ok done) intake h = refl
apart_from_read (Err (Write n)) intake h = refl
apart_from_read (Err Memory) intake h = refl
apart_from_read (Err Foreign) intake h = refl
apart_from_read (Err Unkept) intake h = refl
apart_from_read (Err Read) intake h = absurd h
apart_from_read (Err Turns) intake h = absurd h

-- nor the number of reads
pub apart_from_turns : {T : Type 0} (result : Result T SessionFault) (intake : Intake) → IsApart result intake
    → result ≡ Err Turns → ⊥
apart_from_turns {T} result intake h is = subst (λ (r : Result T SessionFault). IsApart r intake) is h

-- what went out is counted with what more goes out
pub count_on : (before after : ℕ) (out more : List ℕ) → before ≡ length out → after ≡ before + length more → after
    ≡ length (out ++ more)
count_on before after out more counted grown = grown ∙ ap (λ (n : ℕ). n + length more) counted
    ∙ sym (length-append out more)

module _ {S : Type 0} (shared : Bool) (lawful : Lawful S)
    (source_first source_now source_new sink_first sink_now sink_new : Option (List ℕ)) where
  -- how the session stands: input and output, and the answers
  abbrev Stands : S → S → Intake → Type 0
  Stands first now intake = (input : List ℕ) × (out : List ℕ)
      × Consumes source_first source_now input × Appends sink_first sink_now out
      × (intake.written ≡ length out) × IsUnderWay lawful first input out now intake

  abbrev Ended : S → Result ℕ SessionFault → S → Type 0
  Ended first result new = (input : List ℕ) × (out : List ℕ)
      × Consumes source_first source_new input × Appends sink_first sink_new out
      × SessionEnds shared lawful first result source_new input out new

  -- nothing more is read, and what is held is finished
  pub ended_at_end : (first now new : S) (intake after : Intake) (bytes more : List ℕ)
      (result : Result ℕ SessionFault) → Stands first now intake
      → Consumes source_now source_new bytes → bytes ≡ [] → IsAtEnd source_new → Appends sink_now sink_new more
      → after.written ≡ intake.written + length more
      → Finishes shared lawful now intake result more new after → IsApart result after → Ended first result new
  ended_at_end first now new intake after bytes more result (input, out, read, written, counted, under) nothing none
      at_end sent grown ends apart = (
        input,
        out ++ more,
        subst (λ (it : List ℕ). Consumes source_first source_new it)
            (ap (λ (it : List ℕ). input ++ it) none ∙ append-nil input)
            (Consumes-trans source_first source_now source_new input bytes read nothing),
        Appends-trans sink_first sink_now sink_new out more written sent,
        ends.ends first input out source_new under at_end
            (count_on intake.written after.written out more counted grown) apart,
      )

  -- a fault among the bytes that were read
  pub ended_among : (first now new : S) (intake after : Intake) (bytes more : List ℕ) (fault : SessionFault)
      → Stands first now intake
      → Consumes source_now source_new bytes → Appends sink_now sink_new more → after.written
      ≡ intake.written + length more
      → Breaks shared lawful now intake bytes more fault new → IsApart {T = ℕ} (Err fault) after
      → Ended first (Err fault) new
  ended_among first now new intake after bytes more fault (input, out, read, written, counted, under) taken sent grown
      breaks apart = (
        input ++ bytes,
        out ++ more,
        Consumes-trans source_first source_now source_new input bytes read taken,
        Appends-trans sink_first sink_now sink_new out more written sent,
        ends_so shared lawful first new source_new (input ++ bytes) (out ++ more) fault
            (breaks.off first input out under)
            (apart_tells fault after (out ++ more) apart (count_on intake.written after.written out more counted grown)),
      )
