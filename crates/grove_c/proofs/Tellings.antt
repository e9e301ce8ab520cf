-- What is told of something that may be said.
use Rattle.std.proofs.Common.{◌≡◌, ◌<◌, ℕ, List, length, arith, inl, inr}
use Rattle.std.specs.Prelude.{String, string_bytes, Result, Ok, Err}
use Rattle.std.proofs.lemmas.Bool.{cases_lt}
use Rattle.grove_answer.specs.declared.refusal.Refusal.{Refusal}
use Rattle.grove_answer.specs.declared.refusal.Refusal.TheVariants.{Fault, Memory}
use Rattle.grove_answer.specs.Outcomes.{Outcome}
use Rattle.grove_answer.specs.Says.{Says}
use Rattle.grove_c.specs.declared.telling.Told.{Told}
use Rattle.grove_c.specs.Tellings.{text_of, Holds, Tells}
use Rattle.grove_c.specs.Endings.{outcome_of, IsPut, IsTold}

module _ (MaySay : Outcome → Type 0) (before after : List ℕ) (told : Told) where
  tells_lines : (lines : List ℕ) → MaySay (Ok lines) → (told.status ≡ 0) × Holds lines before after told
      → Tells MaySay before after told
  tells_lines lines may (status, holds) = record {
    done = λ _. (lines, may, holds);
    refused = λ one. absurd (omega arith);
    room = λ two. absurd (omega arith);
    memory = λ three. absurd (omega arith);
    known = omega arith;
  }

  tells_fault : (fault : List ℕ) → MaySay (Err fault) → (told.status ≡ 1) × Holds fault before after told
      → Tells MaySay before after told
  tells_fault fault may (status, holds) = record {
    done = λ zero. absurd (omega arith);
    refused = λ _. (fault, may, holds);
    room = λ two. absurd (omega arith);
    memory = λ three. absurd (omega arith);
    known = omega arith;
  }

  tells_room : (outcome : Outcome) → MaySay outcome → length before < length (text_of outcome)
      → (told.status ≡ 2) × (told.length ≡ length (text_of outcome)) × (after ≡ before) → Tells MaySay before after told
  tells_room outcome may small (status, long, same) = record {
    done = λ zero. absurd (omega arith);
    refused = λ one. absurd (omega arith);
    room = λ _. (outcome, may, long, rw long small, same);
    memory = λ three. absurd (omega arith);
    known = omega arith;
  }

  pub tells_memory : (told.status ≡ 3) × (told.length ≡ 0) × (after ≡ before) → Tells MaySay before after told
  tells_memory (status, none, same) = record {
    done = λ zero. absurd (omega arith);
    refused = λ one. absurd (omega arith);
    room = λ two. absurd (omega arith);
    memory = λ _. (none, same);
    known = omega arith;
  }

  pub tells_text : (lines : List ℕ) → IsPut 0 lines before after told → MaySay (Ok lines)
      → Tells MaySay before after told
  tells_text lines is may =
      elim (cases_lt (length before) (length lines)) [
        | inl small ↦ tells_room (Ok lines) may small (is.room small)
        | inr fits ↦ tells_lines lines may (is.fits fits)
      ]

  tells_why : (fault : List ℕ) → IsPut 1 fault before after told → MaySay (Err fault) → Tells MaySay before after told
  tells_why fault is may =
      elim (cases_lt (length before) (length fault)) [
        | inl small ↦ tells_room (Err fault) may small (is.room small)
        | inr fits ↦ tells_fault fault may (is.fits fits)
      ]

  pub tells : {Z : Type 0} (said : Result (String Z) Refusal) → IsTold (outcome_of said) before after told
      → Says MaySay said → Tells MaySay before after told
  tells (Ok lines) is may = tells_text (string_bytes lines) is may
  tells (Err (Fault fault text)) is may = tells_why text is may
  tells (Err Memory) is may = tells_memory is
