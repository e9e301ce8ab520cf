use Rattle.std.specs.Prelude.{map}
use Rattle.serde_json.specs.View.{view}
use Rattle.grove_wire.proofs.Fitting.{lists_few, lists_fit}
use Rattle.grove_wire.proofs.lists.read_lists.Goals as goal

pub returns-clause-fitting : goal.returns-clause-fitting
returns-clause-fitting c = lists_fit c.args.tree.now c.in_ok-version.version (map view c.in_ok-items.items.now) c.lists_of.result c.lists_of.ensures

pub returns-clause-few : goal.returns-clause-few
returns-clause-few c = lists_few c.args.tree.now c.in_ok-version.version (map view c.in_ok-items.items.now) c.lists_of.result c.lists_of.ensures
