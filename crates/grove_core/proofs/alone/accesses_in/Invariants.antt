use Rattle.std.proofs.Common.{◌≡◌, ◌*◌, ◌≤◌}
use Rattle.grove_core.specs.DoneAlone.{start_of}
use Rattle.grove_core.proofs.alone.accesses_in.Given as goal

abbrev pub invariant-loop-txn : goal.invariant-loop-txn
invariant-loop-txn l = record {
  counted : l.accesses ≡ start_of l.jobs l.txn;
  few : l.accesses ≤ 64 * l.txn;
}
