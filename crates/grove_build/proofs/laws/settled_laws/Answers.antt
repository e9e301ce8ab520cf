use Rattle.grove_proof.proofs.OneFault.{certified_is_faultless}
use Rattle.grove_build.proofs.Once.{settled_one}
use Rattle.grove_build.proofs.laws.settled_laws.Goals as goal
use Rattle.std.proofs.Common.{arith}

pub returns-clause-once : goal.returns-clause-once
returns-clause-once c = settled_one

pub returns-clause-accepted : goal.returns-clause-accepted
returns-clause-accepted c = grind (arith, certified_is_faultless)
