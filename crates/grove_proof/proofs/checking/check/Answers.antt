-- Each clause follows from the verdict.
use Rattle.grove_proof.proofs.Verdicts.{verdict_cost, verdict_legal, verdict_certificate, verdict_least, verdict_fault, verdict_refused}
use Rattle.grove_proof.proofs.checking.check.Goals as goal
use Rattle.std.proofs.Common.{arith}

pub returns : goal.returns
returns c =
    grind (arith, verdict_certificate, verdict_cost, verdict_fault, verdict_least, verdict_legal, verdict_refused)
