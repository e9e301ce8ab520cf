use Rattle.std.proofs.Common.{◌≤◌, length, arith}
use Rattle.std.proofs.lemmas.List.{take_all}
use Rattle.std.proofs.lemmas.Option.{slice_get_within}
use Rattle.grove_build.proofs.Batched.{AllZip-next}
use Rattle.grove_build.proofs.Keeping.{planned_at_place}
use Rattle.grove_build.proofs.kept_plans.KeptPlans.plan_each.Goals as goal

pub at-requires : goal.at-requires
at-requires c = slice_get_within _ _ _ c.in_ok-place.ensures.stands.1

pub loop-list-preserved : goal.loop-list-preserved
loop-list-preserved c = grind (arith, AllZip-next, planned_at_place)

pub returns-clause-plans : goal.returns-clause-plans
returns-clause-plans c =
    let done : length c.args.lists.now ≤ c.loop-list.list-index = omega arith in
    rw take_all at c.loop-list.invariant.plans

pub returns-clause-settled : goal.returns-clause-settled
returns-clause-settled c = rw c.note_batch.ensures c.loop-list.invariant.settled
