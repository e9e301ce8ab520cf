use Rattle.std.proofs.lemmas.Result.{IfOk-weaker}
use Rattle.grove_build.specs.Keeping.{AreTargetsOf}
use Rattle.grove_build.proofs.Keeping.{kept_planned, settled_added}
use Rattle.grove_build.proofs.kept_plans.KeptPlans.place.Goals as goal
use Rattle.std.proofs.Common.{arith}

pub returns-clause-stands : goal.returns-clause-stands
returns-clause-stands c = grind (arith, IfOk-weaker)

pub returns-clause-settled : goal.returns-clause-settled
returns-clause-settled c =
    let own : AreTargetsOf c.args.list.now c.in_ok-targets.targets.items = record { nodes = c.in_ok-targets.ensures.nodes; lengths = c.in_ok-targets.ensures.lengths } in
    let is = c.in_ok-planned.ensures in
    settled_added c.args.tree.now c.make_room.new.self c.keep.new.self _
    (c.make_room.ensures.settled c.args.tree.now c.requires.settled) c.keep.ensures.others
    (kept_planned c.args.tree.now c.args.list.now c.in_ok-targets.targets.items c.in_ok-planned.planned own
    record { settled = is.settled; least = is.least; priced = is.cost; certificate = is.certificate })
