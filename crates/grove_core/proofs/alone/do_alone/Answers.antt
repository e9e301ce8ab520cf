use Rattle.std.proofs.Common.{arith}
use Rattle.grove_core.proofs.AloneDone.{legal_fits, done_from}
use Rattle.grove_core.proofs.alone.do_alone.Goals as goal

pub do_all-requires-clause-fit : goal.do_all-requires-clause-fit
do_all-requires-clause-fit c = grind (arith, legal_fits)

pub returns-clause-done : goal.returns-clause-done
returns-clause-done c =
    done_from c.args.tree.now c.args.jobs.now c.requires.legal c.args.records.now c.do_all.new.records
    (record c.in_ok-done.done { order = c.order_alone.new.order }) c.do_all.new.self
    c.requires.records c.in_ok-done.ensures.silent c.in_ok-done.ensures.whole c.order_alone.ensures.order
    c.order_alone.ensures.once c.do_all.ensures
