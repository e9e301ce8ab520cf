use Rattle.std.proofs.Common.{◌≡◌, ◌-◌, None, length, map}
use Rattle.grove_tree.specs.Weights.{unweighed}
use Rattle.grove_desk.specs.Receipts.{AreNumberedFrom}
use Rattle.grove_desk.specs.Ledgers.{next_number, AreAnsweredInTurn}
use Rattle.grove_desk.proofs.rounds.answer_rounds.Given as goal

abbrev pub invariant-loop-taken : goal.invariant-loop-taken
invariant-loop-taken g l = record {
  answered : AreAnsweredInTurn l.fn.store l.store l.fn.journal l.journal l.fn.taken l.taken l.receipts.items;
  numbered : AreNumberedFrom (next_number l.fn.journal) l.receipts.items;
  tickets : map (λ asked. asked.ticket) l.taken ≡ map (λ asked. asked.ticket) l.fn.taken;
  long : length l.taken ≡ length l.fn.taken;
  plain : l.journal ≡ None;
  names : unweighed l.store.rows ≡ unweighed l.fn.store.rows;
}

abbrev pub decreases-loop-taken : goal.decreases-loop-taken
decreases-loop-taken g l = length l.fn.taken - length l.receipts.items
