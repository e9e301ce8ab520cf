-- The bytes up to a place are written.
use Rattle.std.proofs.Common.{◌≡◌, ◌-◌, ◌≤◌, length, take}
use Rattle.std.specs.Io.KnownBytes.{Appends}
use Rattle.grove_session.proofs.whole.write_until_cut.Given as goal

abbrev pub invariant-loop-written : goal.invariant-loop-written
invariant-loop-written g l =
    Appends (g.S.Sink.contents l.initial.sink) (g.S.Sink.contents l.sink) (take l.written l.bytes)
    × (l.written ≤ length l.bytes)
    × (g.S.Sink.has_failed l.sink ≡ g.S.Sink.has_failed l.initial.sink)

abbrev pub decreases-loop-written : goal.decreases-loop-written
decreases-loop-written g l = length l.bytes - l.written
