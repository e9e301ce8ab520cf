-- A write that was interrupted appended nothing.
use Rattle.std.specs.Io.KnownBytes.{Keeps}
use Rattle.grove.proofs.file_sink.write_through.Given as goal

abbrev pub invariant-loop : goal.invariant-loop
invariant-loop g l = Keeps (g.W.Write.contents l.initial.writer) (g.W.Write.contents l.writer)
