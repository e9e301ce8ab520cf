use Rattle.std.proofs.Common.{Ok, subst}
use Rattle.grove_answer.specs.Says.{Says}
use Rattle.grove.specs.Outcomes.{MaySay}
use Rattle.grove.proofs.answering.done.Goals as goal

pub returns-in-Err : goal.returns-in-Err
returns-in-Err c command document ends says =
    c.refused.ensures command (Ok document) (subst (Says (MaySay command document)) c.in-Err.is says)
