use Rattle.std.proofs.Common.{◌≡◌, length}
use Rattle.grove_core.specs.Kept.{past_of}
use Rattle.grove_store.specs.Parts.{waits_at, AreOldOrNew}
use Rattle.grove_store.proofs.AddedWaits.{HaveAdded}
use Rattle.grove_store.proofs.waiting.waits_after.Given as goal

abbrev pub invariant-loop-txn : goal.invariant-loop-txn
invariant-loop-txn l = record {
  long : length l.all.items ≡ length l.waits;
  kept : AreOldOrNew (waits_at l.core.jobs (past_of l.core) l.waits) l.waits l.all.items;
  added : HaveAdded (waits_at l.core.jobs (past_of l.core) l.waits) l.core.jobs l.txn l.all.items;
}
