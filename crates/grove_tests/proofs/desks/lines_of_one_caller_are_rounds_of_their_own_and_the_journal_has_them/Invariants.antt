use Rattle.std.specs.Prelude.{true}
use Rattle.grove_tests.proofs.desks.lines_of_one_caller_are_rounds_of_their_own_and_the_journal_has_them.Given as goal

abbrev pub ghosts-two_rounds : goal.ghosts-two_rounds
ghosts-two_rounds g a = record { store = a.store; kept = true }
