-- A text nests nothing.
use Rattle.std.proofs.Common.{◌≡◌, ℕ, ◌≤◌, nat_lt, Bool, true, false, List, length, subst, sym, arith, IfOk}
use Rattle.std.specs.Prelude.{Result, Ok, Err, if◌then◌else◌}
use Rattle.std.specs.Str.{is_utf8}
use Rattle.serde_json.specs.Data.{Data, depth, string}
use Rattle.grove_wire.specs.declared.fault.WireFault.{WireFault}
use Rattle.grove_wire.specs.declared.fault.WireFault.TheVariants.{Shape}
use Rattle.grove_wire.specs.declared.place.Part.TheVariants.{Whole}
use Rattle.grove_wire.specs.Outcomes.{Gives}
use Rattle.grove_wire.specs.Places.{whole_of}
use Rattle.grove_wire.proofs.Levels.{past_limit}
use Rattle.grove.specs.Outcomes.{text_of_table}

past_utf8 : (test : Bool) (bytes : List ℕ) (d : Data)
    → (if test then Ok (string bytes) else Err (Shape (whole_of Whole))) ≡ Ok d → d ≡ string bytes
past_utf8 true bytes d is = cc
past_utf8 false bytes d is = absurd (cc)

level_text : (bytes : List ℕ) (d : Data) → text_of_table bytes ≡ Ok d → depth d ≤ 127
level_text bytes d is =
    let same : d ≡ string bytes = past_utf8 (is_utf8 bytes) bytes d
    (past_limit (nat_lt 4194304 (length bytes)) d _ is) in
    subst (λ (x : Data). depth x ≤ 127) (sym same) (omega arith)

pub shallow_text : {T : Type 0} (seen : T → Data) (bytes : List ℕ) (result : Result T WireFault)
    → Gives seen result (text_of_table bytes)
    → IfOk result (λ (x : T). depth (seen x) ≤ 127)
shallow_text seen bytes (Ok x) gives = level_text bytes (seen x) gives
shallow_text seen bytes (Err fault) gives = tt
