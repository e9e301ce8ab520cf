use Rattle.std.proofs.Common.{◌≡◌, ◌≤◌, length}
use Rattle.grove_log.specs.Readings.{reading}
use Rattle.grove_log.proofs.reading.stop.Given as goal

abbrev pub invariant-loop-passed : goal.invariant-loop-passed
invariant-loop-passed l = ((reading l.seal.bytes l.rest).seal ≡ (reading l.number.bytes l.frames).seal)
    × ((reading l.seal.bytes l.rest).rest ≡ (reading l.number.bytes l.frames).rest) × (length l.rest ≤ length l.frames)

abbrev pub decreases-loop-passed : goal.decreases-loop-passed
decreases-loop-passed l = length l.rest
