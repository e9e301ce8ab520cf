use Rattle.std.proofs.Common.{arith}
use Rattle.grove_line.proofs.LineTexts.{text_read, more_behind, text_unread}
use Rattle.grove_line.proofs.reading.read_text.Goals as goal

pub returns-in_err-outcome-clause-unread : goal.returns-in_err-outcome-clause-unread
returns-in_err-outcome-clause-unread c refused =
    text_unread c.args.text.now c.in_ok-reader.reader c.in_ok-reader.ensures.ok
    (c.read_value.ensures.unread (grind arith))

pub returns-in-Some-clause-unread : goal.returns-in-Some-clause-unread
returns-in-Some-clause-unread c refused =
    let first = c.in_ok-outcome.ensures.read in
    more_behind c.args.text.now c.in_ok-reader.reader c.in_ok-reader.ensures.ok first.whole c.read_value.new.reader _ _
    first.is c.in-Some.ensures.value

pub returns-in-None-clause-read : goal.returns-in-None-clause-read
returns-in-None-clause-read c =
    let first = c.in_ok-outcome.ensures.read in (
      first.whole,
      text_read c.args.text.now c.in_ok-reader.reader c.in_ok-reader.ensures.ok first.whole
          c.read_value.new.reader first.is c.in-None.ensures.value.0,
      first.holds,
    )
