use Rattle.std.proofs.Common.{ℕ, List, length, arith, ap, ◌∙◌}
use Rattle.std.specs.List.{flat_map}
use Rattle.std.proofs.lemmas.List.{length-append}
use Rattle.grove_effects.specs.Effects.{word}
use Rattle.grove_data.proofs.Lengths.{words_long}
use Rattle.grove_data.proofs.data.Data.write.Goals as goal

pub restart-requires-clause-short : goal.restart-requires-clause-short
restart-requires-clause-short g c =
    let names = c.deref.result.now in
    let numbers = c.deref-then-is_long.result.now in
    omega (
      arith,
      ap (λ (l : List ℕ). length l) (c.deref-then-is_long-2.ensures.value ∙ c.in_ok-put_snapshot.ensures),
      length-append names (flat_map word numbers),
      words_long numbers,
      ap (λ (l : List ℕ). length l) c.deref.ensures.value,
      ap (λ (l : List ℕ). length l) c.deref-then-is_long.ensures.value,
      c.requires.whole,
    )
