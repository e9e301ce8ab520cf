use Rattle.std.proofs.lemmas.List.{get_or_default}
use Rattle.grove_wire.specs.Writing.{reply_data}
use Rattle.grove_wire.proofs.Written.{written_more, written_all}
use Rattle.grove_wire.proofs.replies.replies_value.Goals as goal

pub loop-reply-preserved : goal.loop-reply-preserved
loop-reply-preserved c =
    rw c.in_ok-push.ensures.items (written_more _ c.in_ok-reply_value.field-0 _ _ _ c.loop-reply-test.true (get_or_default _ _ _ _ c.loop-reply-test.true) reply_data c.loop-reply.invariant c.in_ok-reply_value.ensures)

pub returns : goal.returns
returns c = written_all c.loop-reply.items _ _ reply_data c.loop-reply-test.false c.loop-reply.invariant
