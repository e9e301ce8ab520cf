use Rattle.grove_flow.proofs.Offering.{IsOffered, past}
use Rattle.grove_flow.proofs.queue.Queue.offer_chain.Given as goal

abbrev pub invariant-loop-next : goal.invariant-loop-next
invariant-loop-next l = IsOffered l.network l.state l.tree l.fan l.v l.initial.self l.self l.next

abbrev pub decreases-loop-next : goal.decreases-loop-next
decreases-loop-next l = past l.next
