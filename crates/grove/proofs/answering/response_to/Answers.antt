use Rattle.grove.specs.Outcomes.{document_for, MaySay}
use Rattle.grove.proofs.Refusing.{says_fault}
use Rattle.grove.proofs.answering.response_to.Goals as goal

pub returns-in_ok-answer-in-Err : goal.returns-in_ok-answer-in-Err
returns-in_ok-answer-in-Err g c =
    c.in_ok-answer-in-Err.ensures c.args.command.now (document_for c.args.command.now c.args.bytes.now)
    (says_fault c.in-Err.fault _ (MaySay c.args.command.now) c.of_wire.result c.in-Err.ensures.read c.of_wire.ensures)
