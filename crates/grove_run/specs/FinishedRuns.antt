-- What a batch comes to.
use Rattle.std.specs.Prelude.{◌≡◌, ℤ, List, length}
use Rattle.grove_tree.specs.Trees.{Rows}
use Rattle.grove_core.specs.declared.job.Job.{Job}
use Rattle.grove_core.specs.Runs.{IsRun, IsFinished}
use Rattle.grove_core.specs.Orders.{placement_order}
use Rattle.grove_core.specs.Laws.{IsEachOnce, IsSerialBy}
use Rattle.grove_core.specs.Kept.{past_of}
use Rattle.grove_run.specs.Runs.{FinishedState, IsCoreOf}

-- a finished run of the jobs, and an order by which it is serial
pub record IsFinishedRun (rows : Rows) (jobs : List Job) (opening : List ℤ) (finished : FinishedState) : Type 0 where
  pub batch : IsCoreOf rows jobs opening finished.core
  pub run : IsRun jobs (past_of finished.core)
  pub ended : IsFinished jobs (past_of finished.core)
  pub order : finished.order ≡ placement_order rows jobs (past_of finished.core)
  pub once : IsEachOnce finished.order (length jobs)
  pub serial : IsSerialBy finished.order jobs opening (past_of finished.core)
