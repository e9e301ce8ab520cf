use Rattle.std.proofs.Common.{arith, ◌≡◌, ◌≤◌, ◌∙◌, ap, length, map, refl, sym, subst}
use Rattle.grove_core.specs.declared.job.Job.{Job}
use Rattle.grove_build.specs.SettledJobs.{AreSettledJobs}
use Rattle.grove_answer.proofs.Batches.{jobs_long}
use Rattle.grove_answer.specs.Outcomes.{IsRunBatch}
use Rattle.grove_answer.specs.Says.{Says}
use Rattle.grove_answer.proofs.running.run_lists.Goals as goal

pub run_jobs-requires-clause-few : goal.run_jobs-requires-clause-few
run_jobs-requires-clause-few g c κs live =
    let long : length c.in_ok-jobs.jobs.items ≡ length c.args.batch.lists.items = jobs_long c.args.batch.tree c.args.batch.lists.items c.in_ok-jobs.jobs.items c.in_ok-jobs.ensures in
    let few : length c.args.batch.lists.items ≤ 256 = c.requires.few in
    let now : length c.in_ok-jobs.jobs.items ≤ 256 = omega arith in
    subst (λ jobs. length jobs ≤ 256) (sym c.deref.ensures.value) now

pub run_jobs-requires-clause-settled : goal.run_jobs-requires-clause-settled
run_jobs-requires-clause-settled g c κs live =
    subst (λ jobs. AreSettledJobs c.args.batch.tree (map (λ (job : Job). job.list) jobs) jobs) (sym c.deref.ensures.value)
    (record { over = refl; settled = c.in_ok-jobs.ensures.settled })

pub returns : goal.returns
returns g c =
    subst (λ lists. Says (IsRunBatch (c.args.batch.tree, c.args.batch.records, lists)) c.run_jobs.result)
    (ap (map (λ (job : Job). job.list)) c.deref.ensures.value ∙ c.in_ok-jobs.ensures.over) c.run_jobs.ensures
