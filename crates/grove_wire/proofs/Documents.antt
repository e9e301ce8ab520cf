-- What bytes are, read as JSON.
use Rattle.std.proofs.Common.{◌≡◌, ℕ, List, Some, None, Bool, true, false, cond, refl, ap, ◌∙◌}
use Rattle.std.specs.Prelude.{IsUtf8}
use Rattle.std.specs.Str.{is_utf8}
use Rattle.std.proofs.lemmas.Str.{is_utf8-from_IsUtf8, IsUtf8-from_is_utf8}
use Rattle.serde_json.specs.Data.{Data}
use Rattle.serde_json.specs.Read.{read}
use Rattle.grove_wire.specs.Reading.{value_of}

-- UTF-8 that is read has its value
pub value_read : (bytes : List ℕ) (d : Data) → IsUtf8 bytes → read bytes ≡ Some d → value_of bytes ≡ Some d
value_read bytes d valid is = ap (λ test. cond test (read bytes) None) (is_utf8-from_IsUtf8 bytes valid) ∙ is

-- what isn't read where it is UTF-8 has none
pub value_refused : (bytes : List ℕ) → (IsUtf8 bytes → read bytes ≡ None) → value_of bytes ≡ None
value_refused bytes none = by_test (is_utf8 bytes) (λ valid. none (IsUtf8-from_is_utf8 bytes valid))
  where
    by_test : (test : Bool) → (test ≡ true → read bytes ≡ None) → cond test (read bytes) None ≡ None
    by_test true none = none refl
    by_test false none = refl
