use Rattle.grove_page.proofs.NodeTexts.{starts_more}
use Rattle.grove_page.proofs.paths.starts_of.Goals as goal

pub loop-number-preserved : goal.loop-number-preserved
loop-number-preserved c =
    starts_more (λ start. start.items) c.loop-number.starts.items c.push.new.self.items c.args.tree.now
    c.loop-number.number
    c.new.result c.in_ok-start.start c.new.ensures c.in_ok-start.ensures c.loop-number.invariant
    c.in_ok-push.ensures.items
