use Rattle.std.proofs.Common.{ap, sym, ◌∙◌, arith}
use Rattle.serde_json.specs.Read.{read}
use Rattle.grove_line.proofs.LineTexts.{line_gives, given_fits, unread_asks}
use Rattle.grove_line.proofs.reading.read_request.Goals as goal

pub returns-in_default-clause-read : goal.returns-in_default-clause-read
returns-in_default-clause-read c =
    unread_asks c.args.tree.now c.args.line.now (λ valid. absurd (c.in_default.ensures.cases.0 valid))

pub returns-in-Ok-read_text-clause-read : goal.returns-in-Ok-read_text-clause-read
returns-in-Ok-read_text-clause-read c =
    let found = c.in-Ok-read_text.ensures.read in
    line_gives c.args.tree.now c.args.line.now c.in-Ok-read_text.outcome found.0 c.in-Ok.ensures.cases.1
    (ap read (sym c.in-Ok.ensures.cases.0) ∙ found.1) found.2

pub returns-in-Ok-read_text-clause-fits : goal.returns-in-Ok-read_text-clause-fits
returns-in-Ok-read_text-clause-fits c =
    given_fits c.args.tree.now c.args.line.now c.in-Ok-read_text.outcome (returns-in-Ok-read_text-clause-read c)

pub returns-in-Err-BadJson-clause-read : goal.returns-in-Err-BadJson-clause-read
returns-in-Err-BadJson-clause-read c = unread_asks c.args.tree.now c.args.line.now
    (λ valid. ap read (sym c.in-Ok.ensures.cases.0) ∙ c.read_text.ensures.unread (grind arith))
