use Rattle.std.proofs.Common.{◌≡◌, length}
use Rattle.grove_log.specs.Readings.{holds_frame}
use Rattle.grove_log.proofs.damage.holds_frame.Given as goal

abbrev pub invariant-loop-rest : goal.invariant-loop-rest
invariant-loop-rest l = holds_frame l.rest ≡ holds_frame l.bytes

abbrev pub decreases-loop-rest : goal.decreases-loop-rest
decreases-loop-rest l = length l.rest
