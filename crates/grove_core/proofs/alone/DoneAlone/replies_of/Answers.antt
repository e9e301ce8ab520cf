use Rattle.std.proofs.Common.{◌≡◌, ◌+◌, length, ap, ◌∙◌, add-one, arith}
use Rattle.std.proofs.lemmas.List.{map-append}
use Rattle.grove_core.specs.Runs.{list_of}
use Rattle.grove_core.specs.DoneAlone.{start_of}
use Rattle.grove_core.proofs.DoneInTurn.{list_read, below_more}
use Rattle.grove_core.proofs.AloneDone.{start_next, parts_more}
use Rattle.grove_core.proofs.alone.DoneAlone.replies_of.Goals as goal

pub part-requires-clause-within : goal.part-requires-clause-within
part-requires-clause-within c =
    omega (
      arith,
      c.len.ensures.number
          ∙ ap length
          (list_read c.args.jobs.now c.loop-job.job c.index-jobs-job.result c.loop-job-test.true c.index-jobs-job.is),
      c.loop-job.invariant.at,
      below_more (list_of c.args.jobs.now) c.loop-job.job (length c.args.jobs.now) c.loop-job-test.true,
      c.requires.all,
      ap length c.deref.ensures.value,
    )

pub loop-job-preserved : goal.loop-job-preserved
loop-job-preserved c =
    let size : c.len.result ≡ length (list_of c.args.jobs.now c.loop-job.job) =
    c.len.ensures.number ∙ ap length
    (list_read c.args.jobs.now c.loop-job.job c.index-jobs-job.result c.loop-job-test.true c.index-jobs-job.is) in
    let at : c.loop-job.start ≡ start_of c.args.jobs.now c.loop-job.job = c.loop-job.invariant.at in
    let next : start_of c.args.jobs.now (c.loop-job.job + 1)
    ≡ start_of c.args.jobs.now c.loop-job.job + length (list_of c.args.jobs.now c.loop-job.job) =
    start_next c.args.jobs.now c.loop-job.job in
    grind (arith, add-one, map-append, parts_more)
