use Rattle.grove_access.specs.Lists.{nodes_of}
use Rattle.grove_plan.proofs.FaultlessIsLegal.{legal_of, illegal_of}
use Rattle.grove_plan.proofs.judging.judge.Goals as goal

pub returns-clause-legal : goal.returns-clause-legal
returns-clause-legal c = rw (← c.steps.ensures.steps) (legal_of c.args.tree.now (nodes_of c.args.list.now) c.steps.result.now c.judge_by.result c.judge_by.ensures.faultless)

pub returns-clause-illegal : goal.returns-clause-illegal
returns-clause-illegal c = rw (← c.steps.ensures.steps) (illegal_of c.args.tree.now (nodes_of c.args.list.now) c.steps.result.now c.judge_by.result c.judge_by.ensures.fault)
