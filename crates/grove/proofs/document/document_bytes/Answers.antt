use Rattle.grove.proofs.Printing.{as_good}
use Rattle.grove.proofs.document.document_bytes.Goals as goal

pub returns-in_ok-read_whole-in-StandardInput-clause-read : goal.returns-in_ok-read_whole-in-StandardInput-clause-read
returns-in_ok-read_whole-in-StandardInput-clause-read g c =
    rw c.in-StandardInput.is
    (as_good c.args.command.now _ _ c.in_ok-read_whole-in-StandardInput.field-0.items
    c.in_ok-read_whole-in-StandardInput.ensures.bytes
    (λ few. c.in_ok-read_whole-in-StandardInput.ensures.end (rw c.most_bytes-most.ensures.most few)))
