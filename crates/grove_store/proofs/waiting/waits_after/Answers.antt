use Rattle.std.proofs.Common.{◌≡◌, List, length, ap, arith}
use Rattle.grove_core.specs.Kept.{past_of}
use Rattle.grove_core.specs.declared.job.Job.{Job}
use Rattle.grove_store.proofs.AddedWaits.{all_after}
use Rattle.grove_store.proofs.waiting.waits_after.Goals as goal

pub returns : goal.returns
returns c =
    let core = c.args.core.now in
    let number : length c.jobs-txn-end.result.now ≡ length core.jobs = ap (λ (js : List Job). length js) c.jobs-txn-end.ensures.jobs in
    all_after core.jobs (past_of core) c.args.waits.now c.requires.few c.loop-txn.all.items c.loop-txn.invariant.long c.loop-txn.invariant.kept
    (λ t place node lt. c.loop-txn.invariant.added t place node (omega arith))
