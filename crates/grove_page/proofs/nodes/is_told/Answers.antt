use Rattle.grove_page.proofs.NodeTexts.{told_is}
use Rattle.grove_page.proofs.nodes.is_told.Goals as goal

pub returns-in-Below : goal.returns-in-Below
returns-in-Below c = rw c.in-Below.is (told_is c.args.tree.now c.in-Below.top c.args.node c.is_above.result
    c.len-size.ensures.tree c.is_above.ensures)
