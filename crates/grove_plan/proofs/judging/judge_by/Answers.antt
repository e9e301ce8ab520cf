use Rattle.std.proofs.Common.{arith}
use Rattle.grove_access.proofs.Lists.{nodes_length}
use Rattle.grove_plan.proofs.FaultlessIsLegal.{missing_is, still_is, none_is, weightless_is}
use Rattle.grove_plan.proofs.judging.judge_by.Goals as goal

pub returns-then-tally-len-clause-fault : goal.returns-then-tally-len-clause-fault
returns-then-tally-len-clause-fault c = grind (arith, missing_is, nodes_length)

pub returns-then-tally-eq0-clause-faultless : goal.returns-then-tally-eq0-clause-faultless
returns-then-tally-eq0-clause-faultless c = grind (arith, nodes_length, weightless_is)

pub first_held-requires : goal.first_held-requires
first_held-requires c = grind (arith)

pub returns-in-Some-clause-fault : goal.returns-in-Some-clause-fault
returns-in-Some-clause-fault c = grind (arith, nodes_length, still_is)

pub returns-clause-faultless : goal.returns-clause-faultless
returns-clause-faultless c = grind (arith, nodes_length, none_is)
