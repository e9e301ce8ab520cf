use Rattle.std.proofs.Common.{◌∙◌, ap, sym}
use Rattle.std.proofs.lemmas.Result.{IfOk-weaker}
use Rattle.grove_wire.specs.declared.fault.WireFault.TheVariants.{Shape}
use Rattle.grove_wire.specs.Outcomes.{◌>>=◌, or_fault, few_on}
use Rattle.grove_line.proofs.TokenValues.{array_of_items, array_unread}
use Rattle.grove_line.proofs.items.items.Goals as goal

pub returns-in-Array-clause-read : goal.returns-in-Array-clause-read
returns-in-Array-clause-read g c =
    let opens = rw c.in-Array.is at c.in_ok-opened.ensures.opened in
    let reads = g.I.Item.reads c.args.finder.now in
    IfOk-weaker c.items_inside.result _ _ (λ outcome read.
    array_of_items opens read.0 read.1 (λ d listed.
    read.2 ∙ ap (λ o. or_fault (Shape c.args.place) o >>= few_on c.args.most reads c.args.place) (sym listed)))
    c.items_inside.ensures.read

pub returns-in-Array-clause-unread : goal.returns-in-Array-clause-unread
returns-in-Array-clause-unread g c refused =
    let opens = rw c.in-Array.is at c.in_ok-opened.ensures.opened in
    array_unread opens (c.items_inside.ensures.unread refused)
