use Rattle.std.proofs.Common.{refl, rules}
use Rattle.grove_wire.specs.Reading.{access_at}
use Rattle.grove_wire.proofs.Each.{exactly, gives_items}
use Rattle.grove_wire.proofs.lists.read_accesses.Goals as goal

pub returns : goal.returns
returns c =
    gives_items _ _ _ 64 _ _ refl c.args.items.now c.read_few.result c.read_few.ensures.all
    c.read_few.ensures.stopped (access_at c.args.tree.now c.args.version)
    (λ at shown r is. exactly r _ (search rules))
