use Rattle.std.proofs.Common.{ap}
use Rattle.grove_tree.specs.BuiltRows.{rows_of}
use Rattle.grove_nodes.proofs.BuiltShapes.{refused}
use Rattle.grove_nodes.proofs.building.build_tree.Goals as goal

pub returns-in-Ok-clause-refused : goal.returns-in-Ok-clause-refused
returns-in-Ok-clause-refused c =
    refused c.args.parents.now c.args.weights.now (rows_of c.in-Ok.rows.items) (rows_of c.deref.result.now)
    c.build.result
    (ap rows_of c.deref.ensures.value) c.in-Ok.ensures.shape c.in-Ok.ensures.names c.build.ensures.refused
