use Rattle.std.proofs.Common.{◌<◌, ◌^◌, ℕ, List, Option, arith, get_or}
use Rattle.std.specs.Prelude.{All}
use Rattle.std.specs.Str.{IsUtf8}
use Rattle.grove_effects.specs.Snapshots.{names_of}
use Rattle.grove_data.proofs.Counting.{passes, for_more, text_at}
use Rattle.grove_data.proofs.rows.rows_of.Goals as goal

pub returns-in_err-row_of-clause-unfit : goal.returns-in_err-row_of-clause-unfit
returns-in_err-row_of-clause-unfit c =
    let names = c.args.names.now in
    let weights = c.args.weights.now in
    let place = c.loop-place.place in
    passes c.from_residual.result c.in_err-row_of.field-0.0 _ c.from_residual.ensures.1
    (for_more (get_or weights place 0 < 2 ^ 32 → IsUtf8 c.index-names-place.result.name.items → ⊥)
    (All (λ (w : ℕ). w < 2 ^ 32) weights → All (λ (named : Option ℕ × List ℕ). IsUtf8 named.1) (names_of names) → ⊥)
    c.in_err-row_of.field-0.0
    (λ p small are. p (small place 0 (omega (arith, c.loop-place-test.true, c.requires)))
    (text_at names place c.index-names-place.result (omega arith) c.index-names-place.is are))
    c.in_err-row_of.ensures.unfit)
