use Rattle.std.proofs.Common.{refl}
use Rattle.grove_wire.specs.Writing.{reply_data}
use Rattle.grove_wire.proofs.Tokens.{all_written, array_told}
use Rattle.grove_wire.proofs.round_texts.write_replies.Goals as goal

pub returns-clause-tokens : goal.returns-clause-tokens
returns-clause-tokens c =
    array_told reply_data c.args.replies.now c.args.writer.now.tokens _ _ _ refl
    (all_written reply_data _ _ _ _ c.loop-reply-test.false c.loop-reply.invariant.tokens) c.in_ok-end_array.ensures.ok
