-- What an audit says of a finished run that left something else than is said to stand.
use Rattle.std.proofs.Common.{ℤ, List, reverse, IfSome, Some, inr}
use Rattle.grove_tree.specs.Trees.{Rows, IsTree}
use Rattle.grove_core.specs.declared.job.Job.{Job}
use Rattle.grove_core.specs.declared.event.Event.{Event}
use Rattle.grove_access.specs.Lists.{nodes_of}
use Rattle.grove_core.specs.declared.fault.ReplayFault.{ReplayFault}
use Rattle.grove_core.specs.declared.fault.ReplayFault.TheVariants.{BadPlan, BadEvent, Unfinished, Memory}
use Rattle.grove_core.specs.Replays.{IsReplayFault}
use Rattle.grove_core.specs.Runs.{list_of, plan_of, AllLegal, IsRun, IsFinished, run_records, replies_of}
use Rattle.grove_core.proofs.SerialRuns.{runs_are_serial}
use Rattle.grove_wire.specs.Histories.{Standing}
use Rattle.grove_wire.specs.declared.faults.Fault.TheVariants as kind
use Rattle.grove_wire.specs.declared.faults.StandingFault.{StandingFault}
use Rattle.grove_answer.specs.declared.refusal.Refusal.{Refusal}
use Rattle.grove_answer.specs.declared.refusal.Refusal.TheVariants as refusal
use Rattle.grove_answer.specs.Outcomes.{IsAudited, IsMisstated, IsSerialRun}
use Rattle.grove_answer.specs.Faults.{IsToldFault}
use Rattle.grove_answer.specs.Says.{refusal_outcome}
use Rattle.grove_wire.specs.Texts.{ReplayFaultFits}
use Rattle.grove_answer.proofs.Faults.{fault_fits}

-- what a history is refused for fits the tree
pub replay_fault_fits : (rows : Rows) (jobs : List Job) (events : List Event) (fault : ReplayFault) → IsReplayFault rows jobs events fault → ReplayFaultFits rows fault
replay_fault_fits rows jobs events (BadPlan t fault) is = fault_fits rows (nodes_of (list_of jobs t)) (plan_of jobs t) fault (λ other. is.1)
replay_fault_fits rows jobs events (BadEvent at fault) is = tt
replay_fault_fits rows jobs events (Unfinished t) is = tt
replay_fault_fits rows jobs events Memory is = tt

-- a finished run is the same as the lists done one after the other
pub serial_run : (rows : Rows) (jobs : List Job) (records : List ℤ) (past : List Event) → IsTree rows
    → AllLegal rows jobs → IsRun jobs past → IsFinished jobs past → IsSerialRun rows jobs records past
serial_run rows jobs records past tree legal run finished =
    let serial = runs_are_serial rows tree jobs legal records past run finished in
    record { run = run; finished = finished; once = serial.0; serial = serial.1 }

-- a refusal tells what is wrong with what is said to stand
pub says_misstated : (rows : Rows) (records : List ℤ) (jobs : List Job) (events : List Event) (said : Standing)
    (fault : StandingFault) (why : Refusal) → AllLegal rows jobs → IsSerialRun rows jobs records (reverse events)
    → IsMisstated said (run_records jobs records (reverse events)) (replies_of jobs records (reverse events)) fault
    → IsToldFault rows (kind.Standing fault) why
    → IfSome (refusal_outcome why) (IsAudited (rows, records, jobs, events, Some said))
says_misstated rows records jobs events said fault (refusal.Fault found text) legal serial misstated told =
    inr (legal, serial, (fault, misstated, told.1))
says_misstated rows records jobs events said fault refusal.Memory legal serial misstated told = tt
