use Rattle.std.proofs.Common.{◌≡◌}
use Rattle.grove_desk.proofs.board.Board.take.Given as goal

abbrev pub invariant-loop : goal.invariant-loop
invariant-loop g l = l.self.ledger ≡ l.initial.self.ledger
