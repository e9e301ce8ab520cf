use Rattle.std.proofs.Common.{◌≡◌, ◌∷◌, [], length, Some, ◌∙◌, ap, arith, length-append}
use Rattle.std.specs.List.{slice_get}
use Rattle.grove_base.proofs.Lists.{read_at}
use Rattle.grove_core.proofs.RunSteps.{list_of_at, plan_of_at}
use Rattle.grove_core.proofs.CoreOpens.{started_more}
use Rattle.grove_core.proofs.opening.start_all.Goals as goal

pub loop-txn-preserved : goal.loop-txn-preserved
loop-txn-preserved c =
    let job : slice_get c.args.jobs.now c.loop-txn.txn ≡ Some c.index-jobs-txn.result =
    read_at c.args.jobs.now c.loop-txn.txn c.index-jobs-txn.result c.loop-txn-test.true c.index-jobs-txn.is in
    let number : length c.loop-txn.progress.items ≡ c.loop-txn.txn = c.loop-txn.invariant.number in
    record {
      number = ap length c.in_ok-push.ensures.items ∙ search (arith, number, length-append c.loop-txn.progress.items (c.in_ok-started.started ∷ []));
      started = started_more c.loop-txn.txn c.args.jobs.now c.loop-txn.progress.items c.push.new.self.items c.in_ok-started.started number
          c.in_ok-push.ensures.items c.loop-txn.invariant.started
          (rw (list_of_at c.args.jobs.now c.loop-txn.txn c.index-jobs-txn.result job, plan_of_at c.args.jobs.now c.loop-txn.txn c.index-jobs-txn.result job) c.in_ok-started.ensures);
    }
