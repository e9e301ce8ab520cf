use Rattle.grove_store.proofs.Leaving.{put_in_place, run_answers}
use Rattle.grove_store.proofs.RoundsAlone.{leaves_done}
use Rattle.grove_store.proofs.store.Store.run_alone.Goals as goal

pub invariant_of-self-in-Ok-1 : goal.invariant_of-self-in-Ok-1
invariant_of-self-in-Ok-1 c = (
  (put_in_place _ _ c.args.jobs.now c.args.counts.now _ _ _ c.self.view_is c.self.invariant.0 c.requires.room
      (leaves_done _ _ c.args.jobs.now c.args.counts.now c.in_ok-done.done c.in-Ok.replies.items
      c.do_alone.new.records c.self.view_is c.requires.legal c.self.invariant.0.few c.in_ok-done.ensures.done
      c.in-Ok.ensures)).0,
  c.self.invariant.1,
  c.self.invariant.2,
)

pub returns-in-Ok-clause-runs : goal.returns-in-Ok-clause-runs
returns-in-Ok-clause-runs c =
    (put_in_place _ _ c.args.jobs.now c.args.counts.now _ _ _ c.self.view_is c.self.invariant.0 c.requires.room
    (leaves_done _ _ c.args.jobs.now c.args.counts.now c.in_ok-done.done c.in-Ok.replies.items
    c.do_alone.new.records c.self.view_is c.requires.legal c.self.invariant.0.few c.in_ok-done.ensures.done
    c.in-Ok.ensures)).1

pub returns-in-Ok-clause-round : goal.returns-in-Ok-clause-round
returns-in-Ok-clause-round c =
    run_answers _ _ _ _ _
    (put_in_place _ _ c.args.jobs.now c.args.counts.now _ _ _ c.self.view_is c.self.invariant.0 c.requires.room
    (leaves_done _ _ c.args.jobs.now c.args.counts.now c.in_ok-done.done c.in-Ok.replies.items
    c.do_alone.new.records c.self.view_is c.requires.legal c.self.invariant.0.few c.in_ok-done.ensures.done
    c.in-Ok.ensures)).1
