use Rattle.std.proofs.Common.{rules}
use Rattle.grove_wire.specs.Reading.{list_on}
use Rattle.grove_wire.proofs.Each.{gives_items}
use Rattle.grove_wire.proofs.lists.lists_of.Goals as goal

pub returns : goal.returns
returns c =
    gives_items _ _ _ 256 _ _ c.whole-place.ensures c.args.items.now c.read_few.result c.read_few.ensures.all
    c.read_few.ensures.stopped (list_on c.args.tree.now c.args.version)
    (λ at shown r is. search rules)
