use Rattle.std.proofs.Common.{◌≡◌, length, reverse, sym, ◌∙◌, ap, arith, below_more}
use Rattle.grove_core.specs.declared.job.Job.{Job}
use Rattle.grove_core.specs.Runs.{steps_done, plan_of}
use Rattle.grove_core.proofs.NeverStalls.{runs_go_on}
use Rattle.grove_core.proofs.CoreReads.{not_ended, ended}
use Rattle.grove_core.proofs.machine.Core.first_unfinished.Goals as goal

pub returns-then-index-steps : goal.returns-then-index-steps
returns-then-index-steps c =
    let less = not_ended c.self.invariant c.loop-txn.txn c.loop-txn-test.true c.index.ensures c.index-self-txn.is (c.steps.ensures.steps ∙ ap (λ (j : Job). j.plan) (sym c.index-self-txn.is)) (omega arith) in
    rw (← c.self.view_is) (record {
      finished = record { job = c.loop-txn-test.true; unfinished = less; first = c.loop-txn.invariant };
      going = runs_go_on c.self.inside.tree.now c.self.invariant.tree c.self.inside.jobs.now c.self.invariant.legal (reverse c.self.inside.history.items) c.self.invariant.is_run c.loop-txn.txn less;
    })

pub loop-txn-preserved : goal.loop-txn-preserved
loop-txn-preserved c =
    below_more (λ t. steps_done (reverse c.self.inside.history.items) t ≡ length (plan_of c.self.inside.jobs.now t)) c.loop-txn.txn c.loop-txn.invariant
    (ended c.self.invariant c.loop-txn.txn c.loop-txn-test.true c.index.ensures c.index-self-txn.is (c.steps.ensures.steps ∙ ap (λ (j : Job). j.plan) (sym c.index-self-txn.is)) (omega arith))
