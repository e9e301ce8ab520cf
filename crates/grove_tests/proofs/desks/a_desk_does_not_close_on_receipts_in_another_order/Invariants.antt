use Rattle.std.specs.Prelude.{true}
use Rattle.grove_tests.proofs.desks.a_desk_does_not_close_on_receipts_in_another_order.Given as goal

abbrev pub ghosts-closing_is_refused : goal.ghosts-closing_is_refused
ghosts-closing_is_refused g a = record { store = a.store; kept = true }
