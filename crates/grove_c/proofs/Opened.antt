-- What is told of a handle that is opened, or is refused.
use Rattle.std.proofs.Common.{◌≡◌, ◌≤◌, ℕ, ℤ, List, [], length, ap, arith, inl, inr}
use Rattle.std.specs.Prelude.{◌≢◌, String, string_bytes, Option, Some, Result, Ok, Err}
use Rattle.std.proofs.lemmas.Bool.{cases_lt}
use Rattle.std.specs.declared.alloc.Global.{Global}
use Rattle.std_alloc.specs.declared.boxed.Box.{Box}
use Rattle.grove_tree.specs.Trees.{Rows}
use Rattle.grove_answer.specs.declared.refusal.Refusal.{Refusal}
use Rattle.grove_answer.specs.declared.refusal.Refusal.TheVariants.{Fault, Memory}
use Rattle.grove_answer.specs.Says.{refusal_outcome}
use Rattle.grove_c.specs.declared.kept.Kept.{Kept}
use Rattle.grove_c.specs.declared.telling.Told.{Told}
use Rattle.grove_c.specs.Handles.{Opens}
use Rattle.grove_c.specs.Openings.{IsOpening, OpenSays}
use Rattle.grove_c.specs.Endings.{outcome_of, IsPut, IsTold}
use Rattle.grove_c.proofs.Tellings.{tells}

module _ (IsOf : Rows × List ℤ → Kept → Type 0) (bytes before after : List ℕ) (told : Told) (old new : Option Kept)
  where
    -- a box is held, and the empty text is told
    pub opens : {Z : Type 0} (kept : Box Kept Global) (nothing : String Z) → string_bytes nothing ≡ []
        → new ≡ Some kept.value → IsTold (outcome_of (Ok nothing)) before after told → IsOpening IsOf bytes (Ok kept)
        → Opens IsOf bytes old new before after told
    opens kept nothing none holds is (stored, read, made) =
        let fits : length (string_bytes nothing) ≤ length before = rw none (omega arith) in
        let done : told.status ≡ 0 = (is.fits fits).0 in record {
          tells = tells (OpenSays bytes) before after told (Ok nothing) is (rw read (ap Ok none));
          opened = λ _. (stored, kept.value, read, made, holds);
          refused = λ other. absurd (other done);
        }

    -- a fault that is put isn't done
    fault_is_told : (fault : List ℕ) → IsPut 1 fault before after told → told.status ≢ 0
    fault_is_told fault is =
        elim (cases_lt (length before) (length fault)) [
          | inl small ↦ λ zero. absurd (omega (arith, zero, (is.room small).0))
          | inr fits ↦ λ zero. absurd (omega (arith, zero, (is.fits fits).0))
        ]

    -- a refusal is told, and what is held stays
    pub stays : (why : Refusal) → new ≡ old → IsTold (refusal_outcome why) before after told
        → IsOpening IsOf bytes (Err why)
        → Opens IsOf bytes old new before after told
    stays (Fault fault text) same is may = let said : Result (String Global) Refusal = Err (Fault fault text) in record {
      tells = tells (OpenSays bytes) before after told said is may;
      opened = λ zero. absurd (fault_is_told text is zero);
      refused = λ _. same;
    }
    stays Memory same is may = let said : Result (String Global) Refusal = Err Memory in record {
      tells = tells (OpenSays bytes) before after told said is tt;
      opened = λ zero. absurd (omega (arith, zero, is.0));
      refused = λ _. same;
    }
