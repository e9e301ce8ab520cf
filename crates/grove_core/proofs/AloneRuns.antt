-- What the run that does each job alone comes to.
use Rattle.std.proofs.Common.{length, arith}
use Rattle.grove_core.specs.Alone.{JobsAlone}
use Rattle.grove_core.proofs.AloneSteps.{is_run_below, is_finished, no_waits}
use Rattle.grove_core.proofs.AloneDeeds.{alone_records, alone_replies}
use Rattle.grove_core.proofs.AloneOrder.{alone_after, alone_order}

pub jobs_alone : JobsAlone
jobs_alone rows jobs legal = record {
  is_run = is_run_below rows jobs legal (length jobs) (omega arith);
  is_finished = is_finished jobs;
  records = alone_records rows jobs legal;
  replies = alone_replies rows jobs legal;
  waits = no_waits jobs (length jobs);
  after = alone_after rows jobs legal;
  order = alone_order rows jobs legal;
}
