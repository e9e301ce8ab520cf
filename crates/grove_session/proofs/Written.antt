-- Bytes that are written piece by piece.
use Rattle.std.proofs.Common.{ℕ, ◌+◌, ◌-◌, List, ◌++◌, Option, length, take, drop, sym, ap, subst, ◌∙◌}
use Rattle.std.proofs.lemmas.List.{take_rest}
use Rattle.std.proofs.Math.Seq.{take-add}
use Rattle.std.specs.Io.KnownBytes.{Appends}
use Rattle.std.proofs.KnownBytes.{Appends-trans}

-- once some of the bytes from a place on are written, the bytes up to a later place are
pub writes_on : (bytes : List ℕ) (written count : ℕ) (old mid new : Option (List ℕ)) → Appends old mid (take written bytes)
    → Appends mid new (take count (take (length bytes - written) (drop written bytes))) → Appends old new (take (written + count) bytes)
writes_on bytes written count old mid new before more =
    subst (Appends old new) (ap (λ (xs : List ℕ). take written bytes ++ take count xs) (take_rest bytes written) ∙ sym (take-add written count bytes))
    (Appends-trans old mid new (take written bytes) (take count (take (length bytes - written) (drop written bytes))) before more)
