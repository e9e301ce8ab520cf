use Rattle.std.proofs.lemmas.Result.{IfOk-weaker}
use Rattle.grove_store.proofs.Leaving.{leaves_round, put_in_place, run_answers, fails_run}
use Rattle.grove_store.proofs.store.Store.run_together.Goals as goal

pub invariant_of-self : goal.invariant_of-self
invariant_of-self g c = (
  (put_in_place _ _ c.args.jobs.now c.args.counts.now _ _ _ c.self.view_is c.self.invariant.0 c.requires.room
      (leaves_round _ c.args.jobs.now c.args.counts.now c.in-Ok.finished _ _ _ _ c.in-Ok.ensures.run
      c.in_ok-outcome.ensures.replies c.in_ok-outcome.ensures.records c.in_ok-outcome.ensures.waits
      c.deref.ensures.value)).0,
  c.self.invariant.1,
  c.self.invariant.2,
)

pub returns-clause-round : goal.returns-clause-round
returns-clause-round g c =
    run_answers _ _ _ _ _
    (put_in_place _ _ c.args.jobs.now c.args.counts.now _ _ _ c.self.view_is c.self.invariant.0 c.requires.room
    (leaves_round _ c.args.jobs.now c.args.counts.now c.in-Ok.finished _ _ _ _ c.in-Ok.ensures.run
    c.in_ok-outcome.ensures.replies c.in_ok-outcome.ensures.records c.in_ok-outcome.ensures.waits
    c.deref.ensures.value)).1

pub returns-in-Err-clause-round : goal.returns-in-Err-clause-round
returns-in-Err-clause-round g c =
    IfOk-weaker c.run_refusals.result _ _ (λ texts told lists settled. fails_run c.args.self.now lists c.args.counts.now
    texts.items c.in-Err.fault c.requires.room c.in-Err.ensures.fault told.0 told.1) c.run_refusals.ensures
