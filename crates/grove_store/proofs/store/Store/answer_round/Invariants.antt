-- The texts so far and the replies that are left are all replies.
use Rattle.std.proofs.Common.{◌≡◌, ◌≤◌, ◌++◌, length, map}
use Rattle.std.specs.Vec.{vec_capacity}
use Rattle.grove_store.proofs.store.Store.answer_round.Given as goal

abbrev pub invariant-loop-reply : goal.invariant-loop-reply
invariant-loop-reply g l = record {
  next : (goal.iterator-loop-reply g).can_next l.reply-iterator;
  ends : (goal.iterator-loop-reply g).is_finite l.reply-iterator;
  all : map (λ text. text.items) l.texts.items ++ l.reply-iterator.rest.items ≡ l.initial.reply-iterator.rest.items;
  few : length l.initial.reply-iterator.rest.items ≤ vec_capacity l.initial.texts;
  room : vec_capacity l.texts ≡ vec_capacity l.initial.texts;
}
