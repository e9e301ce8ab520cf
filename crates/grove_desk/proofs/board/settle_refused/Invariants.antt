use Rattle.std.specs.Vec.Iter.{DrainKeeps}
use Rattle.grove_desk.proofs.board.settle_refused.Given as goal

abbrev pub invariant-loop-asked : goal.invariant-loop-asked
invariant-loop-asked g l = record {
  next : (goal.iterator-loop-asked g).can_next l.asked-iterator;
  ends : (goal.iterator-loop-asked g).is_finite l.asked-iterator;
  kept : DrainKeeps l.initial.asked-iterator l.asked-iterator;
}
