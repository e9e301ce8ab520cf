-- What is read of bytes nests no deeper than what is read again.
use Rattle.std.proofs.Common.{◌≡◌, ℕ, ◌≤◌, nat_lt, Bool, true, false, List, length, Option, Some, None, is_some, ap}
use Rattle.std.proofs.Common.{IfOk}
use Rattle.std.specs.Prelude.{Result, Ok, Err, if◌then◌else◌}
use Rattle.std.specs.Str.{is_utf8}
use Rattle.serde_json.specs.Data.{Data, depth}
use Rattle.serde_json.specs.Find.{as_object}
use Rattle.serde_json.specs.Read.{read}
use Rattle.serde_json.proofs.Nesting.{depth-read}
use Rattle.grove_wire.specs.declared.versions.Version.{Version}
use Rattle.grove_wire.specs.declared.fault.WireFault.{WireFault}
use Rattle.grove_wire.specs.declared.fault.WireFault.TheVariants.{BadJson, Shape, Limit}
use Rattle.grove_wire.specs.declared.place.Part.TheVariants.{Whole}
use Rattle.grove_wire.specs.Outcomes.{◌>>=◌, or_fault, Gives}
use Rattle.grove_wire.specs.Places.{whole_of}
use Rattle.grove_wire.specs.Reading.{value_of, object_at, version_in, document_within, document_of, history_of}

-- a document that tells a version that there is
abbrev versioned : Data → Result Data WireFault
versioned d = version_in d >>= λ version. Ok d

past_version : (x d : Data) (version : Result Version WireFault) → (version >>= λ v. Ok x) ≡ Ok d → x ≡ d
past_version x d (Ok v) is = cc
past_version x d (Err fault) is = absurd (cc)

past_object : (x d : Data) (test : Bool)
    → ((if test then Ok x else Err (Shape (whole_of Whole))) >>= versioned) ≡ Ok d → x ≡ d
past_object x d true is = past_version x d (version_in x) is
past_object x d false is = absurd (cc)

past_value : (value : Option Data) (d : Data)
    → ((or_fault BadJson value >>= object_at (whole_of Whole)) >>= versioned) ≡ Ok d → value ≡ Some d
past_value None d is = absurd (cc)
past_value (Some x) d is = ap Some (past_object x d (is_some (as_object x)) is)

-- nothing is read of too many bytes
pub past_limit : (test : Bool) (d : Data) (rest : Result Data WireFault)
    → (if test then Err (Limit (whole_of Whole)) else rest) ≡ Ok d → rest ≡ Ok d
past_limit true d rest is = absurd (cc)
past_limit false d rest is = is

past_text : (test : Bool) (value : Option Data) (d : Data) → (if test then value else None) ≡ Some d → value ≡ Some d
past_text true value d is = is
past_text false value d is = absurd (cc)

level_within : (most : ℕ) (bytes : List ℕ) (d : Data) → document_within most bytes ≡ Ok d → depth d ≤ 127
level_within most bytes d is =
    depth-read bytes d (past_text (is_utf8 bytes) (read bytes) d
    (past_value (value_of bytes) d
    (past_limit (nat_lt most (length bytes)) d
    ((or_fault BadJson (value_of bytes) >>= object_at (whole_of Whole)) >>= versioned) is)))

-- what a reader gives of them
pub shallow_document : {T : Type 0} (seen : T → Data) (bytes : List ℕ) (result : Result T WireFault)
    → Gives seen result (document_of bytes)
    → IfOk result (λ (x : T). depth (seen x) ≤ 127)
unfolding document_of
shallow_document seen bytes (Ok x) gives = level_within 4194304 bytes (seen x) gives
shallow_document seen bytes (Err fault) gives = tt

pub shallow_history : {T : Type 0} (seen : T → Data) (bytes : List ℕ) (result : Result T WireFault)
    → Gives seen result (history_of bytes)
    → IfOk result (λ (x : T). depth (seen x) ≤ 127)
unfolding history_of
shallow_history seen bytes (Ok x) gives = level_within 67108864 bytes (seen x) gives
shallow_history seen bytes (Err fault) gives = tt
