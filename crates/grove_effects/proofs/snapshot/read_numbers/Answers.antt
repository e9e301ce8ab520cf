use Rattle.std.proofs.Common.{◌<◌, length, arith}
use Rattle.grove_effects.proofs.Fronts.{some_left}
use Rattle.grove_effects.proofs.Reading.{each_error, word_more}
use Rattle.grove_effects.proofs.snapshot.read_numbers.Goals as goal

pub returns-in_err-number-clause-refused : goal.returns-in_err-number-clause-refused
returns-in_err-number-clause-refused c =
    each_error c.from_residual.result _ (λ fault numbers same.
    let least =
    word_more c.args.bytes.now c.loop-rest.rest.now c.loop-rest.numbers.items numbers c.loop-rest.invariant.1 same
    (some_left c.loop-rest.rest.now c.loop-rest-test.ensures) in
    let short : length c.loop-rest.rest.now < 8 = c.in_err-number.ensures.front in
    absurd (omega arith))
