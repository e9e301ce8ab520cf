use Rattle.std.proofs.Common.{length, arith}
use Rattle.grove_core.specs.Runs.{list_of}
use Rattle.grove_core.proofs.DoneInTurn.{does_none, does_below, does_length, room_list, fit_read, list_read}
use Rattle.grove_core.proofs.alone.DoneAlone.do_all.Goals as goal

pub loop-txn-init : goal.loop-txn-init
loop-txn-init c = does_none c.args.records.now c.args.self.now

pub do_list-requires-clause-fits : goal.do_list-requires-clause-fits
do_list-requires-clause-fits c =
    fit_read c.args.jobs.now c.loop-txn.txn c.index-jobs-txn.result (length c.args.records.now)
    (length c.loop-txn.records) c.loop-txn-test.true c.index-jobs-txn.is
    (does_length _ _ _ _ _ c.loop-txn.invariant) c.requires.fit

pub do_list-requires-clause-room : goal.do_list-requires-clause-room
do_list-requires-clause-room c = grind (arith, list_read, room_list)

pub loop-txn-preserved : goal.loop-txn-preserved
loop-txn-preserved c =
    does_below (list_of c.args.jobs.now) c.loop-txn.txn _ _ _ _ _ _ _
    (list_read c.args.jobs.now c.loop-txn.txn c.index-jobs-txn.result c.loop-txn-test.true c.index-jobs-txn.is)
    c.loop-txn.invariant c.do_list.ensures
