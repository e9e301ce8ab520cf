use Rattle.std.proofs.Common.{inl, inr}
use Rattle.grove_flow.proofs.Offering.{offered_more, key_once, not_live}
use Rattle.grove_flow.proofs.queue.Queue.offer_chain.Goals as goal
use Rattle.grove_flow.proofs.queue.Queue.offer_chain.Goals.{in-Some-key_at+in_ok-push, in_default-key_at}

pub loop-next-preserved : goal.loop-next-preserved
loop-next-preserved c = elim c.match-key_at.branch [
  | in-Some-key_at+in_ok-push w ↦ rw w.self-is (offered_more w.push.new.self c.in-Some.i c.index-next-in-Some.result.now
      c.requires.fan c.in-Some.is c.loop-next.invariant c.index-next-in-Some.ensures w.in_ok-push.ensures.kept
      (λ key live. rw (← key_once w.in-Some-key_at.ensures live) w.in_ok-push.ensures.added) (λ key i h. elim (w.in_ok-push.ensures.only key i h) [
        | inl e ↦ rw e.1 w.in-Some-key_at.ensures.within
        | inr old ↦ c.loop-next.invariant.within key i old
      ]))
  | in_default-key_at w ↦ rw w.self-is (offered_more c.loop-next.self c.in-Some.i c.index-next-in-Some.result.now
      c.requires.fan c.in-Some.is c.loop-next.invariant c.index-next-in-Some.ensures (λ key i h. h)
      (λ key live. absurd (not_live w.in_default-key_at.ensures live)) c.loop-next.invariant.within)
]
