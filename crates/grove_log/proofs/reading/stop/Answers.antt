use Rattle.grove_log.specs.Readings.{reading}
use Rattle.grove_log.proofs.Passing.{frame_less}
use Rattle.grove_log.proofs.reading.stop.Goals as goal
use Rattle.std.proofs.Common.{arith}

pub loop-passed-smaller : goal.loop-passed-smaller
loop-passed-smaller c = grind (arith, frame_less)
