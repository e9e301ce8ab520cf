use Rattle.std.proofs.Common.{◌∙◌, ap, sym, option_and_then}
use Rattle.std.proofs.lemmas.Result.{IfOk-weaker}
use Rattle.grove_wire.specs.FlatValues.{flat_few}
use Rattle.grove_line.proofs.TokenValues.{array_of_items, array_unread}
use Rattle.grove_line.proofs.scalars.few.Goals as goal

pub returns-in-Array-clause-read : goal.returns-in-Array-clause-read
returns-in-Array-clause-read c =
    let opens = rw c.in-Array.is at c.in_ok-opened.ensures.opened in
    IfOk-weaker c.few_items.result _ _ (λ few read.
    array_of_items opens read.0 read.1 (λ d listed. read.2 ∙ ap (option_and_then flat_few) (sym listed)))
    c.few_items.ensures.read

pub returns-in-Array-clause-unread : goal.returns-in-Array-clause-unread
returns-in-Array-clause-unread c refused =
    let opens = rw c.in-Array.is at c.in_ok-opened.ensures.opened in
    array_unread opens (c.few_items.ensures.unread refused)
