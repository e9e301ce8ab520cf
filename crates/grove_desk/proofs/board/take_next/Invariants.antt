use Rattle.grove_desk.proofs.board.take_next.Given as goal

abbrev pub invariant-loop-slot : goal.invariant-loop-slot
invariant-loop-slot g l = Unit {0}
