-- The bytes of a name are ASCII.
use Rattle.std.proofs.Common.{◌≡◌, ℕ, ◌<◌, true, List, [], ◌∷◌, arith}
use Rattle.std.specs.List.{list_all}
use Rattle.std.specs.Str.{IsAscii}
use Rattle.std.proofs.lemmas.Bool.{and_parts, or_cases, leb-true, eqb-true}
use Rattle.std.proofs.lemmas.Str.Ascii.{IsAscii-nil, IsAscii-cons}
use Rattle.grove_tree.specs.Rules.{is_name_byte}

byte_small : (c : ℕ) → is_name_byte c ≡ true → c < 128
byte_small c is = grind (arith, and_parts, eqb-true, leb-true, or_cases)

-- bytes that may stand in a name are ASCII
pub ascii_bytes : (cs : List ℕ) → list_all is_name_byte cs ≡ true → IsAscii cs
ascii_bytes [] all = IsAscii-nil
ascii_bytes (c ∷ cs) all =
    let parts = and_parts _ _ all in IsAscii-cons c cs (byte_small c parts.0) (ascii_bytes cs parts.1)
