use Rattle.std.proofs.lemmas.Result.{IfOk-weaker}
use Rattle.grove_line.proofs.ListReading.{list_of_items, no_list_read}
use Rattle.grove_line.proofs.TokenValues.{array_of_items, array_unread, not_array, starts_weaker}
use Rattle.grove_line.proofs.list_read.read_list.Goals as goal

pub returns-in-Array-clause-read : goal.returns-in-Array-clause-read
returns-in-Array-clause-read c =
    let opens = rw c.in-Array.is at c.in_ok-opened.ensures.opened in
    IfOk-weaker c.read_inside.result _ _ (λ list read.
    array_of_items opens read.0 read.1 (λ d listed.
    list_of_items c.args.tree.now c.args.place list read.0 d listed read.2)) c.read_inside.ensures.read

pub returns-in-Array-clause-unread : goal.returns-in-Array-clause-unread
returns-in-Array-clause-unread c refused =
    let opens = rw c.in-Array.is at c.in_ok-opened.ensures.opened in
    array_unread opens (c.read_inside.ensures.unread refused)

pub returns : goal.returns
returns c = record {
  read = starts_weaker (λ d is version.
      no_list_read c.args.tree.now version c.args.place d
      (not_array c.in_ok-opened.opened c.in_default.not-Array d is))
      (c.in_ok-pass_opened.ensures.passed c.args.depth c.args.reader.now c.in_ok-opened.ensures.opened);
  unread = λ never. absurd (cc);
}
