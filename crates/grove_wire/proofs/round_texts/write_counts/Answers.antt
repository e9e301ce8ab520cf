use Rattle.std.proofs.Common.{refl}
use Rattle.grove_wire.specs.Writing.{count_data}
use Rattle.grove_wire.proofs.Tokens.{all_written, array_told}
use Rattle.grove_wire.proofs.round_texts.write_counts.Goals as goal

pub returns-clause-tokens : goal.returns-clause-tokens
returns-clause-tokens c =
    array_told count_data c.args.counts.now c.args.writer.now.tokens _ _ _ refl
    (all_written count_data _ _ _ _ c.loop-count-test.false c.loop-count.invariant.tokens) c.in_ok-end_array.ensures.ok
