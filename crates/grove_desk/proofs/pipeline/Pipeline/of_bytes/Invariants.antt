use Rattle.std.specs.Prelude.{◌≤◌, length}
use Rattle.grove_desk.proofs.pipeline.Pipeline.of_bytes.Given as goal

abbrev pub invariant-loop-length : goal.invariant-loop-length
invariant-loop-length g l = l.room ≤ 65536

abbrev pub decreases-loop-length : goal.decreases-loop-length
decreases-loop-length g l = length l.rest
