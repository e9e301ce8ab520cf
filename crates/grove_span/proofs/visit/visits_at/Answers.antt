use Rattle.std.proofs.Common.{length, None, refl}
use Rattle.grove_access.specs.Lists.{nodes_of}
use Rattle.grove_span.proofs.FirstAndLast.{tells_none}
use Rattle.grove_span.proofs.visit.visits_at.Goals as goal

pub returns-else-accessed-clause-tells : goal.returns-else-accessed-clause-tells
returns-else-accessed-clause-tells c =
    tells_none (nodes_of c.args.list.now) (length (nodes_of c.args.list.now)) c.args.node
    (record { first = None; last = None; from = None; until = None }) refl refl (c.requires c.if-accessed.false)
