use Rattle.std.proofs.Common.{inl, inr}
use Rattle.grove_flow.proofs.Offering.{dead}
use Rattle.grove_flow.proofs.queue.Queue.next.Goals as goal

pub key_at-requires-clause-within : goal.key_at-requires-clause-within
key_at-requires-clause-within c = c.loop-key.invariant.within c.in-Some.key c.in-Some.i c.in-Some.ensures.taken

pub returns-then-eq-clause-least : goal.returns-then-eq-clause-least
returns-then-eq-clause-least c = λ i key live. c.in-Some.ensures.least key i (c.loop-key.invariant.queued i key live)

pub returns-then-eq-clause-rest : goal.returns-then-eq-clause-rest
returns-then-eq-clause-rest c = λ i key live other. elim (c.in-Some.ensures.rest key i (c.loop-key.invariant.queued i key live)) [
  | inl e ↦ absurd (other e.1)
  | inr rest ↦ rest
]

pub returns-then-eq-clause-within : goal.returns-then-eq-clause-within
returns-then-eq-clause-within c = λ key i h. c.loop-key.invariant.within key i (c.in-Some.ensures.back key i h)

pub loop-key-preserved : goal.loop-key-preserved
loop-key-preserved c = record {
  queued = λ i key live. elim (c.in-Some.ensures.rest key i (c.loop-key.invariant.queued i key live)) [
    | inl e ↦ absurd (dead c.in-Some.i c.in-Some.key c.key_at.result c.key_at.ensures c.if-eq.ensures e live)
    | inr rest ↦ rest
  ];
  within = λ key i h. c.loop-key.invariant.within key i (c.in-Some.ensures.back key i h);
}

pub returns-clause-none : goal.returns-clause-none
returns-clause-none c = λ i key live. c.in_default.ensures.none key i (c.loop-key.invariant.queued i key live)

pub returns-clause-within : goal.returns-clause-within
returns-clause-within c = λ key i h. c.loop-key.invariant.within key i (c.in_default.ensures.back key i h)
