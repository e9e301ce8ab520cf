-- The buffer keeps its length, and a read that was interrupted consumed nothing and is no fault.
use Rattle.std.proofs.Common.{◌≡◌, length}
use Rattle.std.specs.Io.KnownBytes.{Keeps}
use Rattle.grove_session.proofs.reader_source.ReaderSourceSource.read.Given as goal

abbrev pub invariant-loop : goal.invariant-loop
invariant-loop g l =
    (length l.buffer ≡ length l.initial.buffer)
    × Keeps (g.R.Read.remaining l.initial.self.reader) (g.R.Read.remaining l.self.reader)
    × (l.self.error ≡ l.initial.self.error)
    × (l.self.reads ≡ l.initial.self.reads)
