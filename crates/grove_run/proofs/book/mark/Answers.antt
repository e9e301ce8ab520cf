use Rattle.grove_run.proofs.Stepping.{mark_done}
use Rattle.grove_run.proofs.book.mark.Goals as goal

pub returns : goal.returns
returns c = mark_done c.args.core.now c.step.new.self c.args.txn c.step.result c.requires c.step.ensures.accepted c.step.ensures.added c.step.ensures.refused c.step.ensures.unchanged
