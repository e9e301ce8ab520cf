use Rattle.grove_core.specs.Kept.{past_of}
use Rattle.grove_store.specs.Parts.{waits_at, AreOldOrNew}
use Rattle.grove_store.proofs.AddedWaits.{HasAdded}
use Rattle.grove_store.proofs.waiting.add_waits.Given as goal

abbrev pub invariant-loop-step : goal.invariant-loop-step
invariant-loop-step l = record {
  kept : AreOldOrNew (waits_at l.core.jobs (past_of l.core) l.waits) l.initial.all l.all;
  added : HasAdded (waits_at l.core.jobs (past_of l.core) l.waits) l.steps l.step-index l.all;
}
