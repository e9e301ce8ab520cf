-- What was given up appended nothing.
use Rattle.std.specs.Io.KnownBytes.{Keeps}
use Rattle.grove_serve.proofs.timed_writer.TimedWriterWrite.write.Given as goal

abbrev pub invariant-loop : goal.invariant-loop
invariant-loop g l = Keeps (g.W.Write.contents l.initial.self.writer) (g.W.Write.contents l.self.writer)
