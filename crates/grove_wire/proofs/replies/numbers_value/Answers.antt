use Rattle.std.proofs.Common.{get_or, pos, w64, SFits, ap, ◌∙◌, rules}
use Rattle.std.proofs.lemmas.Int.{to_z-of_z}
use Rattle.std.proofs.lemmas.List.{get_or_default}
use Rattle.grove_wire.specs.Writing.{number_data}
use Rattle.grove_wire.proofs.Written.{written_more, written_all}
use Rattle.grove_wire.proofs.replies.numbers_value.Goals as goal

pub loop-number-preserved : goal.loop-number-preserved
loop-number-preserved c =
    let number = get_or c.args.numbers.now c.loop-number.number-index (pos 0) in
    let fits : SFits w64 number = search rules in
    let next = c.from.ensures ∙ ap number_data (to_z-of_z w64 number fits) in
    rw c.in_ok-push.ensures.items (written_more _ c.from.result _ _ number c.loop-number-test.true (get_or_default _ _ _ _ c.loop-number-test.true) number_data c.loop-number.invariant next)

pub returns : goal.returns
returns c = written_all c.loop-number.items _ _ number_data c.loop-number-test.false c.loop-number.invariant
