-- What was read is answered as far as its lines go, and so often it was read.
use Rattle.std.proofs.Common.{◌≡◌, ◌+◌, ◌*◌, ◌≤◌, ℕ, List, [], false, length}
use Rattle.std.specs.Io.KnownBytes.{Appends, Consumes}
use Rattle.grove_session.specs.Intakes.{IsUnderWay}
use Rattle.grove_session.proofs.sessions.answer_lines.Given as goal

abbrev pub invariant-loop : goal.invariant-loop
invariant-loop g l = record {
  answered : (input : List ℕ) × (out : List ℕ) × Consumes (g.I.Source.remaining l.initial.source) (g.I.Source.remaining l.source) input
      × Appends (g.O.Sink.contents l.initial.sink) (g.O.Sink.contents l.sink) out × (l.intake.written ≡ length out)
      × IsUnderWay g.A.Answers.lawful l.initial.answers input out l.answers l.intake;
  sound_source : g.I.Source.has_failed l.source ≡ false;
  sound_sink : g.O.Sink.has_failed l.sink ≡ false;
  reads : g.I.Source.read_count l.source ≡ g.I.Source.read_count l.initial.source + l.counter;
  none_held : l.intake.held.items ≡ [];
  alone : g.A.Answers.is_shared ≡ false → l.intake.most_held ≡ 0;
  lines : l.intake.answered ≤ 16384 * l.counter;
  buffer : length l.buffer ≡ 16384;
}
