use Rattle.std.proofs.Common.{inl, inr, ap, ⊎_elim}
use Rattle.std.specs.BinaryHeap.{heap_items}
use Rattle.std.proofs.lemmas.List.Sorted.{IsPermutation-sym}
use Rattle.grove_flow.proofs.Offering.{held_rest, held_cases, least_key}
use Rattle.grove_flow.proofs.queue.Queue.pop.Goals as goal

pub returns-clause-least : goal.returns-clause-least
returns-clause-least c = λ k a. least_key (λ e. e.0) c.in_ok-entry.field-0 (heap_items c.args.self.now.heap) (k, a) (c.in_ok-entry.ensures.heap_order c.args.self.now.ordered).1

pub returns-clause-rest : goal.returns-clause-rest
returns-clause-rest c = λ k a h. ⊎_elim (λ e. inl (ap (λ p. p.0) e, ap (λ p. p.1) e)) inr
    (held_cases (λ e. e.0) c.in_ok-entry.field-0 (heap_items c.pop.new.self) (heap_items c.args.self.now.heap) (k, a) c.in_ok-entry.ensures.permutation h)

pub returns-clause-back : goal.returns-clause-back
returns-clause-back c = λ k a. held_rest (λ e. e.0) c.in_ok-entry.field-0 (heap_items c.pop.new.self) (heap_items c.args.self.now.heap) (k, a) (IsPermutation-sym _ _ c.in_ok-entry.ensures.permutation)
