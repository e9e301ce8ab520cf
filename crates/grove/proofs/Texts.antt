-- What bytes are, read as a text.
use Rattle.std.proofs.Common.{◌≡◌, ℕ, List, Bool, true, false, Result, Ok, Err, String, Global, string_bytes, cond}
use Rattle.std.proofs.Common.{ap, refl, rules}
use Rattle.std.specs.Prelude.{IsUtf8}
use Rattle.std.specs.Str.{is_utf8}
use Rattle.std.proofs.lemmas.Str.{is_utf8-from_IsUtf8, IsUtf8-from_is_utf8}
use Rattle.serde_json.specs.Data.{Data, string}
use Rattle.serde_json.specs.View.{view}
use Rattle.serde_json.specs.declared.value.Value as value
use Rattle.grove_wire.specs.declared.fault.WireFault.{WireFault}
use Rattle.grove_wire.specs.declared.fault.WireFault.TheVariants.{Shape}
use Rattle.grove_wire.specs.declared.place.Part.TheVariants.{Whole}
use Rattle.grove_wire.specs.Places.{whole_of}
use Rattle.grove.specs.Outcomes.{utf8_text}

-- UTF-8 is the text of its bytes
pub text_read : (bytes : List ℕ) → IsUtf8 bytes → utf8_text bytes ≡ Ok (string bytes)
text_read bytes valid = ap (λ test. cond test (Ok (string bytes)) (Err (Shape (whole_of Whole))))
    (is_utf8-from_IsUtf8 bytes valid)

-- and nothing else is a text
pub text_refused : (bytes : List ℕ) → (IsUtf8 bytes → ⊥) → utf8_text bytes ≡ Err (Shape (whole_of Whole))
text_refused bytes none = by_test (is_utf8 bytes) (IsUtf8-from_is_utf8 bytes)
  where
    by_test : (test : Bool) → (test ≡ true → IsUtf8 bytes)
        → cond test (Ok (string bytes)) (Err (Shape (whole_of Whole))) ≡ Err (Shape (whole_of Whole))
    by_test true valid = absurd (none (valid refl))
    by_test false valid = refl

-- a text as a value
pub view-String : (text : String Global) → view (value.String text) ≡ string (string_bytes text)
view-String text = search (rules, value.the_lemmas)
