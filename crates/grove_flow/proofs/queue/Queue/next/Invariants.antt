use Rattle.grove_flow.specs.Queues.{AreQueued, NamesArcsAlone, entries_of}
use Rattle.grove_flow.proofs.queue.Queue.next.Given as goal

abbrev pub invariant-loop-key : goal.invariant-loop-key
invariant-loop-key l = record {
  queued : AreQueued l.network l.state l.tree l.self;
  within : NamesArcsAlone l.network l.self;
}

abbrev pub decreases-loop-key : goal.decreases-loop-key
decreases-loop-key l = entries_of l.self
