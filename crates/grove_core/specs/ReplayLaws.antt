-- For the proofs alone: what is no finished run has one first fault, and a finished run has none.
use Rattle.grove_tree.specs.Trees.{Rows}
use Rattle.grove_core.specs.declared.job.Job.{Job}
use Rattle.grove_core.specs.declared.event.Event.{Event}
use Rattle.std.specs.Prelude.{◌≡◌, ◌≢◌, List, reverse}
use Rattle.grove_core.specs.declared.fault.ReplayFault.{ReplayFault}
use Rattle.grove_core.specs.declared.fault.ReplayFault.TheVariants.{Memory}
use Rattle.grove_core.specs.Runs.{AllLegal, IsRun, IsFinished}
use Rattle.grove_core.specs.Replays.{IsReplayFault}

-- events have one first reason alone, and a finished run has none
abbrev pub ReplayFaultIsOne : Type 0
ReplayFaultIsOne = (rows : Rows) (jobs : List Job) (events : List Event) (one other : ReplayFault) → one ≢ Memory
    → other ≢ Memory → IsReplayFault rows jobs events one → IsReplayFault rows jobs events other → one ≡ other

abbrev pub FinishedIsFaultless : Type 0
FinishedIsFaultless = (rows : Rows) (jobs : List Job) (events : List Event) → AllLegal rows jobs
    → IsRun jobs (reverse events) → IsFinished jobs (reverse events)
    → (fault : ReplayFault) → IsReplayFault rows jobs events fault → fault ≡ Memory
