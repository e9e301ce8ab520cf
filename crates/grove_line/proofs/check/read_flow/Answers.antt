use Rattle.grove_line.proofs.TokenValues.{starts_weaker}
use Rattle.grove_line.proofs.check.read_flow.Goals as goal

pub returns-in-Err-clause-read : goal.returns-in-Err-clause-read
returns-in-Err-clause-read c =
    starts_weaker (λ d is. rw (c.in-Err.is, c.whole-place.ensures) at is) c.in_ok-rows.ensures.read
