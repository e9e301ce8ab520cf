use Rattle.std.specs.Prelude.{All}
use Rattle.std.specs.Vec.Iter.{DrainKeeps}
use Rattle.grove_desk.specs.Histories.{IsDeskReceipt}
use Rattle.grove_desk.proofs.board.settle_answered.Given as goal

abbrev pub invariant-loop-asked : goal.invariant-loop-asked
invariant-loop-asked g l = record {
  next : (goal.iterator-loop-asked g).can_next l.asked-iterator;
  ends : (goal.iterator-loop-asked g).is_finite l.asked-iterator;
  kept : DrainKeeps l.initial.asked-iterator l.asked-iterator;
  left : All (IsDeskReceipt g.K.Keeper.stands_for g.B.Opening.store g.B.Opening.kept) l.receipts.rest.items;
}
