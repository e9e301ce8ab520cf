use Rattle.std.proofs.Common.{inl, inr, ap, ⊎_elim}
use Rattle.std.specs.BinaryHeap.{heap_items}
use Rattle.std.proofs.lemmas.List.Sorted.{IsPermutation-sym}
use Rattle.grove_flow.proofs.Offering.{held_first, held_rest, held_cases}
use Rattle.grove_flow.proofs.queue.Queue.push.Goals as goal

pub returns-clause-kept : goal.returns-clause-kept
returns-clause-kept c = λ k a. held_rest (λ e. e.0) _ (heap_items c.args.self.now.heap) (heap_items c.push.new.self) (k, a) c.in_ok-push.ensures.permutation

pub returns-clause-added : goal.returns-clause-added
returns-clause-added c = held_first (λ e. e.0) _ (heap_items c.args.self.now.heap) (heap_items c.push.new.self) c.in_ok-push.ensures.permutation

pub returns-clause-only : goal.returns-clause-only
returns-clause-only c = λ k a h. ⊎_elim (λ e. inl (ap (λ p. p.0) e, ap (λ p. p.1) e)) inr
    (held_cases (λ e. e.0) _ (heap_items c.args.self.now.heap) (heap_items c.push.new.self) (k, a) (IsPermutation-sym _ _ c.in_ok-push.ensures.permutation) h)
