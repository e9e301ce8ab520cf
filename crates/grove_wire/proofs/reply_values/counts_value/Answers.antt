use Rattle.std.proofs.lemmas.List.{get_or_default}
use Rattle.grove_wire.specs.Writing.{count_data}
use Rattle.grove_wire.proofs.Written.{written_more, written_all}
use Rattle.grove_wire.proofs.reply_values.counts_value.Goals as goal

pub loop-count-preserved : goal.loop-count-preserved
loop-count-preserved c =
    rw c.in_ok-push.ensures.items (written_more _ c.from.result _ _ _ c.loop-count-test.true (get_or_default _ _ _ _ c.loop-count-test.true) count_data c.loop-count.invariant c.from.ensures)

pub returns : goal.returns
returns c = written_all c.loop-count.items _ _ count_data c.loop-count-test.false c.loop-count.invariant
