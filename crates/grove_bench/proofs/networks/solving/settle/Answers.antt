use Rattle.std.proofs.Common.{to_z-of_z}
use Rattle.grove_bench.proofs.networks.solving.settle.Goals as goal

pub latest-requires-clause-solved : goal.latest-requires-clause-solved
latest-requires-clause-solved g c =
    rw (to_z-of_z c.ranges.top) record {
      size = c.requires.solution.places_size;
      lawful = c.requires.solution.lawful;
      base = c.requires.solution.base;
      capped = λ v less. c.requires.capped v (rw c.requires.solution.places_size less);
    }
