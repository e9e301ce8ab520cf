use Rattle.grove_core.specs.Runs.{list_of}
use Rattle.grove_core.specs.Alone.{accesses_below}
use Rattle.grove_core.specs.Doing.{Does}
use Rattle.grove_core.proofs.alone.DoneAlone.do_all.Given as goal

abbrev pub invariant-loop-txn : goal.invariant-loop-txn
invariant-loop-txn l = Does (accesses_below (list_of l.jobs) l.txn) l.initial.records l.records l.initial.self l.self
