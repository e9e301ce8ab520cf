use Rattle.grove_line.proofs.OnlyMember.{no_object_asks}
use Rattle.grove_line.proofs.TokenValues.{starts_weaker}
use Rattle.grove_line.proofs.only.read_only.Goals as goal

pub returns-in-Some-clause-read : goal.returns-in-Some-clause-read
returns-in-Some-clause-read c = starts_weaker (λ d found. let read = rw c.in-Some.is at found in rw read.1
    (c.into_request.ensures c.args.finder.now read.0 read.2)) c.in_ok-only.ensures.read

pub returns-in-None-clause-read : goal.returns-in-None-clause-read
returns-in-None-clause-read c = starts_weaker (λ d found. rw c.whole.ensures
    (no_object_asks c.args.finder.now d (rw c.in-None.is at found))) c.in_ok-only.ensures.read
