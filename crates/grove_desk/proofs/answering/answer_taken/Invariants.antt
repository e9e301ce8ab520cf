use Rattle.std.proofs.Common.{◌≡◌, ◌≤◌, length, map, take, drop}
use Rattle.std.specs.Vec.{vec_capacity}
use Rattle.grove_desk.specs.Ledgers.{AreReceiptsOf}
use Rattle.grove_desk.proofs.answering.answer_taken.Given as goal

abbrev pub invariant-loop-reply : goal.invariant-loop-reply
invariant-loop-reply g l = record {
  next : (goal.iterator-loop-reply g).can_next l.reply-iterator;
  ends : (goal.iterator-loop-reply g).is_finite l.reply-iterator;
  few : length l.initial.reply-iterator.rest.items ≤ length l.fn.taken;
  rest : l.reply-iterator.rest.items ≡ drop (length l.receipts.items) l.initial.reply-iterator.rest.items;
  within : length l.receipts.items ≤ length l.initial.reply-iterator.rest.items;
  noted : AreReceiptsOf l.first (map (λ asked. asked.line) l.fn.taken)
      (take (length l.receipts.items) l.initial.reply-iterator.rest.items) l.store.rounds l.receipts.items;
  room : vec_capacity l.receipts ≡ vec_capacity l.initial.receipts;
  long : length l.taken ≡ length l.fn.taken;
  left : drop (length l.receipts.items) l.taken ≡ drop (length l.receipts.items) l.fn.taken;
  tickets : map (λ asked. asked.ticket) l.taken ≡ map (λ asked. asked.ticket) l.fn.taken;
}
