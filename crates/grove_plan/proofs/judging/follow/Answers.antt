use Rattle.std.proofs.Common.{suc, length, sym, ◌∙◌, add-one, arith}
use Rattle.grove_access.specs.Lists.{nodes_of}
use Rattle.grove_plan.proofs.StepFaults.{fault_next, fault_stays}
use Rattle.grove_plan.proofs.judging.follow.Goals as goal

pub returns-in-Some-clause-fault : goal.returns-in-Some-clause-fault
returns-in-Some-clause-fault c =
    fault_stays c.args.tree.now (nodes_of c.args.list.now) c.args.plan.now (suc c.loop-position.position) (length c.args.plan.now) c.in-Some.fault (omega arith)
    (fault_next c.args.tree.now (nodes_of c.args.list.now) c.args.plan.now c.loop-position.position c.loop-position.invariant.1 ∙ sym c.fault_at.ensures ∙ c.in-Some.is)

pub loop-position-preserved : goal.loop-position-preserved
loop-position-preserved c = grind (arith, add-one, fault_next)

pub take-requires-clause-faultless : goal.take-requires-clause-faultless
take-requires-clause-faultless c = sym c.fault_at.ensures ∙ c.in_default.is
