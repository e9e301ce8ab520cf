use Rattle.std.proofs.Common.{◌∙◌}
use Rattle.grove_line.proofs.CheckReading.{check_asks, no_check}
use Rattle.grove_line.proofs.TokenValues.{starts_weaker}
use Rattle.grove_line.proofs.check.read_check.Goals as goal

pub returns-in-Some-clause-read : goal.returns-in-Some-clause-read
returns-in-Some-clause-read c = starts_weaker (λ d found. let read = rw c.in-Some.is at found in rw read.1
    (c.into_request.ensures ∙ check_asks c.args.finder.now c.in-Some.check read.0 read.2)) c.in_ok-check.ensures.read

pub returns-in-None-clause-read : goal.returns-in-None-clause-read
returns-in-None-clause-read c = starts_weaker (λ d found. rw c.whole.ensures
    (no_check c.args.finder.now d (rw c.in-None.is at found))) c.in_ok-check.ensures.read
