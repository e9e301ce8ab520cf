use Rattle.std.proofs.Common.{◌≡◌, ◌<◌, length, sym, ◌∙◌, ap}
use Rattle.grove_core.specs.declared.job.Job.{Job}
use Rattle.grove_core.specs.Runs.{plan_of}
use Rattle.grove_core.specs.Orders.{first_lock}
use Rattle.grove_base.proofs.Lists.{read_at}
use Rattle.grove_core.proofs.RunSteps.{plan_of_at}
use Rattle.grove_core.proofs.OrderByLevels.{first_within}
use Rattle.grove_core.proofs.machine.Core.first_lock.Goals as goal

pub returns : goal.returns
returns c =
    let lt : c.args.txn < length c.self.inside.jobs.now = rw (← c.self.view_is) at c.requires in
    let first : c.first_lock.result ≡ first_lock (plan_of c.self.inside.jobs.now c.args.txn) =
    c.first_lock.ensures ∙ ap first_lock (c.steps.ensures.steps ∙ ap (λ (j : Job). j.plan) (sym c.index-self-txn.is)
    ∙ sym (plan_of_at c.self.inside.jobs.now c.args.txn c.index-self-txn.result (read_at c.self.inside.jobs.now c.args.txn c.index-self-txn.result lt c.index-self-txn.is))) in
    rw (← c.self.view_is) (record { first = first; within = first_within c.self.inside.tree.now c.self.inside.jobs.now c.self.invariant.legal c.args.txn lt c.first_lock.result first })
