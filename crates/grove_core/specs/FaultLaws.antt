-- For the proofs alone: a run refuses an event for one reason, and jobs for one, and what it refuses may not happen.
use Rattle.std.specs.Prelude.{◌≡◌, ◌≢◌, List}
use Rattle.grove_tree.specs.Trees.{Rows}
use Rattle.grove_core.specs.declared.job.Job.{Job}
use Rattle.grove_core.specs.declared.event.Event.{Event}
use Rattle.grove_core.specs.declared.fault.StepFault.{StepFault}
use Rattle.grove_core.specs.declared.fault.OpenFault.{OpenFault}
use Rattle.grove_core.specs.declared.fault.OpenFault.TheVariants.{Memory}
use Rattle.grove_core.specs.Runs.{MayHappen, IsRun, IsRefused}
use Rattle.grove_core.specs.Openings.{IsFirstFault}

-- an event that is refused may not happen
abbrev pub RefusedMayNot : Type 0
RefusedMayNot = (jobs : List Job) (past : List Event) (event : Event) (fault : StepFault)
    → IsRefused jobs past event fault → ¬ MayHappen jobs past event

-- a run refuses an event for one reason alone
abbrev pub RefusedForOne : Type 0
RefusedForOne = (jobs : List Job) (past : List Event) → IsRun jobs past → (event : Event) (one other : StepFault)
    → IsRefused jobs past event one → IsRefused jobs past event other → one ≡ other

-- jobs have one first fault alone
abbrev pub FirstFaultIsOne : Type 0
FirstFaultIsOne = (rows : Rows) (jobs : List Job) (one other : OpenFault) → one ≢ Memory → other ≢ Memory
    → IsFirstFault rows jobs one → IsFirstFault rows jobs other → one ≡ other
