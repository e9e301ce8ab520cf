use Rattle.std.proofs.Common.{◌≤◌, length, sym, subst, arith}
use Rattle.std.proofs.lemmas.List.{take_all}
use Rattle.std.proofs.lemmas.Option.{slice_get_within}
use Rattle.grove_build.specs.KeptPlans.{IsKeptIn}
use Rattle.grove_build.proofs.Batched.{AllZip-next}
use Rattle.grove_build.proofs.kept_plans.KeptPlans.copies_of.Goals as goal

pub unreachable-requires : goal.unreachable-requires
unreachable-requires c =
    c.in_default.ensures.none c.list-item.result
    record { nodes = c.in_ok-targets.ensures.nodes; lengths = c.in_ok-targets.ensures.lengths }
    (subst (IsKeptIn c.args.self.now) (sym c.list-item.is)
    (c.requires c.loop-list.list-index c.list-item.result (omega arith)))

pub at-requires : goal.at-requires
at-requires c = grind (arith, slice_get_within)

pub loop-list-preserved : goal.loop-list-preserved
loop-list-preserved c = grind (arith, AllZip-next)

pub returns : goal.returns
returns c =
    let done : length c.args.lists.now ≤ c.loop-list.list-index = omega arith in
    rw take_all at c.loop-list.invariant
