use Rattle.std.proofs.Common.{arith}
use Rattle.grove_build.proofs.NothingKept.{nothing_kept}
use Rattle.grove_build.proofs.jobs.settled_jobs.Goals as goal

pub kept_jobs-requires-clause-kept : goal.kept_jobs-requires-clause-kept
kept_jobs-requires-clause-kept g c κs within = grind (arith, nothing_kept)
