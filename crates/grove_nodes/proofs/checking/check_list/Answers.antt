use Rattle.std.proofs.Common.{arith}
use Rattle.grove_nodes.proofs.Verdicts.{proposal_unchecked}
use Rattle.grove_nodes.proofs.checking.check_list.Goals as goal

pub returns : goal.returns
returns c = grind (arith, proposal_unchecked)
