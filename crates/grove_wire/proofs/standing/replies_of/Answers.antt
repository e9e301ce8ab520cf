use Rattle.std.proofs.Common.{rules}
use Rattle.grove_wire.specs.Histories.{replies_on}
use Rattle.grove_wire.proofs.Each.{gives_seen}
use Rattle.grove_wire.proofs.standing.replies_of.Goals as goal

pub returns : goal.returns
returns c =
    gives_seen _ _ _ 4294967295 _ _ c.whole-place.ensures c.args.items.now c.read_few.result c.read_few.ensures.all
    c.read_few.ensures.stopped (λ replies. replies.items) replies_on
    (λ at shown r is. search rules)
