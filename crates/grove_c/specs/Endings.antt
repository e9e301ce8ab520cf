-- For the proofs alone: how a call ends, by what it says and by the room that there is.
use Rattle.std.specs.Prelude.{◌≡◌, ℕ, ◌<◌, ◌≤◌, List, length, string_bytes, String, Option, Some, None, Result, Ok, Err}
use Rattle.grove_answer.specs.declared.refusal.Refusal.{Refusal}
use Rattle.grove_answer.specs.Outcomes.{Outcome}
use Rattle.grove_answer.specs.Says.{refusal_outcome}
use Rattle.grove_c.specs.declared.telling.Told.{Told}
use Rattle.grove_c.specs.Tellings.{Holds}

-- the outcome that is said; out of memory is none
abbrev pub outcome_of : {Z : Type 0} → Result (String Z) Refusal → Option Outcome
outcome_of (Ok lines) = Some (Ok (string_bytes lines))
outcome_of (Err why) = refusal_outcome why

-- a text is put into the buffer, if there is room for all of it
pub record IsPut (status : ℕ) (text before after : List ℕ) (told : Told) : Type 0 where
  pub fits : length text ≤ length before → (told.status ≡ status) × Holds text before after told
  pub room : length before < length text → (told.status ≡ 2) × (told.length ≡ length text) × (after ≡ before)

abbrev pub IsTold : Option Outcome → List ℕ → List ℕ → Told → Type 0
IsTold None before after told = (told.status ≡ 3) × (told.length ≡ 0) × (after ≡ before)
IsTold (Some (Ok lines)) before after told = IsPut 0 lines before after told
IsTold (Some (Err fault)) before after told = IsPut 1 fault before after told
