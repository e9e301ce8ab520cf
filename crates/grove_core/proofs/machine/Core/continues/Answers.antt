use Rattle.std.proofs.Common.{sym}
use Rattle.grove_core.proofs.CarriedEntries.{plan_read, list_read, follows_read}
use Rattle.grove_core.proofs.machine.Core.continues.Goals as goal

pub returns : goal.returns
returns c =
    let list = list_read c.args.self.now.jobs c.jobs.result.now c.args.txn c.index-jobs-txn.result c.jobs.ensures.jobs c.requires.job c.index-jobs-txn.is in
    let plan = plan_read c.args.self.now.jobs c.jobs.result.now c.args.txn c.index-jobs-txn.result c.jobs.ensures.jobs c.requires.job c.index-jobs-txn.is in (
      λ is. follows_read _ _ _ _ _ _ c.args.entries.now list plan c.steps_done.ensures.steps_done (c.follows.ensures.0 is),
      λ follows. c.follows.ensures.1 (follows_read _ _ _ _ _ _ c.args.entries.now (sym list) (sym plan) (sym c.steps_done.ensures.steps_done) follows),
    )
