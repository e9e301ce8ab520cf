-- What was read so far is what the source gave, and at most one byte too much.
use Rattle.std.proofs.Common.{◌≡◌, ◌+◌, ◌-◌, ◌≤◌, length}
use Rattle.std.specs.Io.KnownBytes.{Consumes}
use Rattle.grove_session.proofs.whole.read_whole.Given as goal

abbrev pub invariant-loop-buffer : goal.invariant-loop-buffer
invariant-loop-buffer g l =
    Consumes (g.S.Source.remaining l.initial.source) (g.S.Source.remaining l.source) l.bytes.items
    × (length l.bytes.items ≤ l.most + 1)
    × (g.S.Source.has_failed l.source ≡ g.S.Source.has_failed l.initial.source)

abbrev pub decreases-loop-buffer : goal.decreases-loop-buffer
decreases-loop-buffer g l = l.most + 1 - length l.bytes.items
