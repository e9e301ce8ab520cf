use Rattle.std.proofs.Common.{map}
use Rattle.grove_core.specs.declared.job.Job.{Job}
use Rattle.grove_build.proofs.SettledJobs.{settled_legal}
use Rattle.grove_answer.proofs.Batches.{run_fault_fits, says_run_fault}
use Rattle.grove_answer.proofs.running.run_jobs.Goals as goal

pub run_legal-requires-clause-legal : goal.run_legal-requires-clause-legal
run_legal-requires-clause-legal g c κs live = settled_legal c.args.tree.now (map (λ (job : Job). job.list) c.args.jobs.now) c.args.jobs.now c.requires.settled

pub of-requires : goal.of-requires
of-requires g c = run_fault_fits c.args.tree.now c.in-Err.fault c.in-Err.ensures.fault

pub returns-in-Err : goal.returns-in-Err
returns-in-Err g c =
    says_run_fault c.args.tree.now c.args.records.now
    (map (λ (job : Job). job.list) c.args.jobs.now) c.in-Err.fault c.of.result
    c.in-Err.ensures.fault c.of.ensures
