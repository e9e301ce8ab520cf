use Rattle.std.proofs.Common.{◌≡◌, ◌<◌, true, length, Some, sym, ◌∙◌, arith}
use Rattle.std.specs.List.{slice_get}
use Rattle.std.proofs.lemmas.List.{length-set}
use Rattle.std.proofs.lemmas.Option.{same_Some}
use Rattle.grove_core.specs.Runs.{plan_of}
use Rattle.grove_core.specs.Orders.{first_lock}
use Rattle.grove_base.proofs.Lists.{read_at, get_set_same}
use Rattle.grove_core.proofs.CoreOpens.{told_kept, first_read, all_told}
use Rattle.grove_core.proofs.opening.mark_firsts.Goals.{in-Some, in_default}
use Rattle.grove_core.proofs.opening.mark_firsts.Goals as goal

pub index_mut-requires : goal.index_mut-requires
index_mut-requires c =
    let job : slice_get c.args.jobs.now c.loop-job.job-index ≡ Some c.job-item.result = read_at c.args.jobs.now c.loop-job.job-index c.job-item.result c.loop-job-test.true c.job-item.is in
    let first : first_lock (plan_of c.args.jobs.now c.loop-job.job-index) ≡ Some c.in-Some.node =
    first_read c.args.jobs.now c.loop-job.job-index c.job-item.result c.steps.result.now job c.steps.ensures.steps ∙ sym c.first_lock.ensures ∙ c.in-Some.is in
    omega (
      arith,
      c.number.ensures.is_it,
      c.loop-job.firsts.ok.0,
      c.requires c.in-Some.node (c.loop-job.job-index, first),
      c.loop-job.invariant.number,
    )

pub loop-job-preserved : goal.loop-job-preserved
loop-job-preserved c =
    let job : slice_get c.args.jobs.now c.loop-job.job-index ≡ Some c.job-item.result = read_at c.args.jobs.now c.loop-job.job-index c.job-item.result c.loop-job-test.true c.job-item.is in
    let read : first_lock (plan_of c.args.jobs.now c.loop-job.job-index) ≡ c.first_lock.result =
    first_read c.args.jobs.now c.loop-job.job-index c.job-item.result c.steps.result.now job c.steps.ensures.steps ∙ sym c.first_lock.ensures in
    let size : length c.loop-job.firsts.items ≡ c.args.nodes = c.loop-job.invariant.number in
    elim c.match-first_lock.branch [
      | in-Some w ↦
          let lt : w.in-Some.node < c.args.nodes = c.requires w.in-Some.node (c.loop-job.job-index, read ∙ w.in-Some.is) in
          grind (arith, get_set_same, length-set, same_Some, told_kept)
      | in_default w ↦ grind (arith)
    ]

pub returns : goal.returns
returns c = all_told c.args.nodes c.args.jobs.now c.loop-job.firsts.items c.loop-job.job-index c.loop-job-test.false c.loop-job.invariant.number c.loop-job.invariant.told
