use Rattle.grove_build.proofs.Keeping.{planned_at_place}
use Rattle.grove_build.proofs.kept_plans.KeptPlans.plan.Goals as goal

pub returns-clause-planned : goal.returns-clause-planned
returns-clause-planned c = rw c.in_ok-planned.ensures
    (planned_at_place c.args.tree.now c.place.new.self c.args.list.now c.in_ok-place.place c.at.result.now
    c.place.ensures.settled c.in_ok-place.ensures.stands c.at.ensures)

pub returns-clause-settled : goal.returns-clause-settled
returns-clause-settled c = rw c.note_given.ensures c.place.ensures.settled
