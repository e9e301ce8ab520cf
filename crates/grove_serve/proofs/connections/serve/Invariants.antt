use Rattle.std.specs.Prelude.{false}
use Rattle.grove_serve.proofs.connections.serve.Given as goal

abbrev pub ghosts-serve_by_rounds : goal.ghosts-serve_by_rounds
ghosts-serve_by_rounds g a = record { store = a.served; kept = false }

abbrev pub ghosts-serve_by_seconds : goal.ghosts-serve_by_seconds
ghosts-serve_by_seconds g a = record { store = a.served; kept = false }
