use Rattle.std.specs.Prelude.{false}
use Rattle.grove_tests.proofs.lines_together.lines_that_come_together_are_done_in_turn_or_together.Given as goal

abbrev pub ghosts-lines_are_done : goal.ghosts-lines_are_done
ghosts-lines_are_done g a = record { store = a.store; kept = false }
