use Rattle.grove_access.specs.Lists.{nodes_of, lengths_of}
use Rattle.grove_plan.specs.Plans.{cost}
use Rattle.grove_wire.proofs.LeastFits.{plan_fits, flow_fits}
use Rattle.grove_answer.proofs.planning.plan_lines.Goals as goal

pub plan_text-requires : goal.plan_text-requires
plan_text-requires c = rw c.in_ok-paths.ensures
    (plan_fits c.args.tree.now (nodes_of c.args.list.now) (lengths_of c.args.list.now) c.args.planned.now.plan
    c.requires.least)

pub flow_text-requires : goal.flow_text-requires
flow_text-requires c = rw (c.in_ok-steps.ensures.tree, c.in_ok-paths.ensures)
    (flow_fits c.args.tree.now (nodes_of c.args.list.now) (lengths_of c.args.list.now) c.args.planned.now.plan
    c.args.planned.now.flow
    (cost c.args.tree.now (lengths_of c.args.list.now) c.args.planned.now.plan)
    c.requires.least c.requires.certificate)
