use Rattle.grove_core.proofs.SerialRuns.{runs_are_serial}
use Rattle.grove_core.proofs.NeverStalls.{runs_go_on}
use Rattle.grove_core.proofs.NoCircles.{no_circles}
use Rattle.grove_core.proofs.Refusals.{refused_may_not, refused_for_one, first_fault_is_one}
use Rattle.grove_core.proofs.ReplayFaults.{replay_fault_is_one, finished_is_faultless}
use Rattle.grove_core.proofs.AloneRuns.{jobs_alone}
use Rattle.grove_core.proofs.laws.run_laws.Goals as goal

pub returns-clause-serial : goal.returns-clause-serial
returns-clause-serial c = runs_are_serial

pub returns-clause-going : goal.returns-clause-going
returns-clause-going c = runs_go_on

pub returns-clause-circles : goal.returns-clause-circles
returns-clause-circles c = no_circles

pub returns-clause-refused : goal.returns-clause-refused
returns-clause-refused c = refused_may_not

pub returns-clause-reason : goal.returns-clause-reason
returns-clause-reason c = refused_for_one

pub returns-clause-opening : goal.returns-clause-opening
returns-clause-opening c = first_fault_is_one

pub returns-clause-replayed : goal.returns-clause-replayed
returns-clause-replayed c = replay_fault_is_one

pub returns-clause-faultless : goal.returns-clause-faultless
returns-clause-faultless c = finished_is_faultless

pub returns-clause-alone : goal.returns-clause-alone
returns-clause-alone c = jobs_alone
