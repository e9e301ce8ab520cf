use Rattle.std.specs.Prelude.{map}
use Rattle.serde_json.specs.View.{view}
use Rattle.grove_wire.proofs.Fitting.{accesses_fit}
use Rattle.grove_wire.proofs.lists.list_of.Goals as goal

pub unreachable-requires : goal.unreachable-requires
unreachable-requires c =
    let listed = accesses_fit c.args.tree.now c.args.version c.args.place (map view c.args.items.now)
    c.in_ok-accesses.accesses.items c.in_ok-accesses.ensures in
    c.in_default.ensures.refused listed
