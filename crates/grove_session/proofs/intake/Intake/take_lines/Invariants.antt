-- The bytes before the rest are taken.
use Rattle.std.proofs.Common.{◌≡◌, ◌+◌, ◌≤◌, ◌++◌, List, ℕ, length}
use Rattle.grove_session.specs.Intakes.{Passes, Continues}
use Rattle.grove_session.proofs.intake.Intake.take_lines.Given as goal

abbrev pub invariant-loop-length : goal.invariant-loop-length
invariant-loop-length g l =
    ((front : List ℕ) × (more : List ℕ) × (front ++ l.rest ≡ l.bytes)
    × Passes (g.O.Sink.contents l.initial.sink) (g.O.Sink.contents l.sink) l.initial.self more l.self
    × Continues g.A.Answers.lawful l.initial.answers l.initial.self front more l.answers l.self)
    × (l.self.answered + length l.rest ≤ l.initial.self.answered + length l.bytes)
    × (g.O.Sink.has_failed l.sink ≡ g.O.Sink.has_failed l.initial.sink)
    × (l.self.most_held ≡ l.initial.self.most_held)

abbrev pub decreases-loop-length : goal.decreases-loop-length
decreases-loop-length g l = length l.rest
