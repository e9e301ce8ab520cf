use Rattle.std.proofs.Common.{◌≤◌, map, ap, ◌∙◌, length}
use Rattle.std.specs.Prelude.{FitsSigned}
use Rattle.std.specs.Int.{w64, cast_signed}
use Rattle.std.proofs.lemmas.List.{take_all}
use Rattle.std.proofs.lemmas.List.Elements.{All-same}
use Rattle.grove_data.specs.Numbers.{bits_of}
use Rattle.grove_data.proofs.Counting.{bits_again, words_small, signed_fit}
use Rattle.grove_data.proofs.rows.records_of.Goals as goal

pub returns-clause-bits : goal.returns-clause-bits
returns-clause-bits c =
    let words = c.args.words.now in
    let past : length words ≤ c.loop-word.word-index = c.loop-word-test.false in
    ap bits_of (c.in_ok-new.ensures ∙ c.deref.ensures.value ∙ c.loop-word.invariant
    ∙ ap (map (cast_signed w64)) (take_all c.loop-word.word-index words past))
    ∙ bits_again words (words_small words c.type_inv.words)

pub returns-clause-fit : goal.returns-clause-fit
returns-clause-fit c =
    let words = c.args.words.now in
    let past : length words ≤ c.loop-word.word-index = c.loop-word-test.false in
    All-same (FitsSigned w64) c.in_ok-new.field-0 (map (cast_signed w64) words)
    (c.in_ok-new.ensures ∙ c.deref.ensures.value ∙ c.loop-word.invariant
    ∙ ap (map (cast_signed w64)) (take_all c.loop-word.word-index words past)) (signed_fit words c.type_inv.words)
