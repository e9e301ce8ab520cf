use Rattle.std.specs.Prelude.{map}
use Rattle.serde_json.specs.View.{view}
use Rattle.grove_wire.proofs.Fitting.{jobs_few, jobs_fit}
use Rattle.grove_wire.proofs.jobs.read_jobs.Goals as goal

pub returns-clause-fitting : goal.returns-clause-fitting
returns-clause-fitting c = jobs_fit c.args.tree.now c.in_ok-version.version (map view c.in_ok-items.items.now) c.jobs_of.result c.jobs_of.ensures

pub returns-clause-few : goal.returns-clause-few
returns-clause-few c = jobs_few c.args.tree.now c.in_ok-version.version (map view c.in_ok-items.items.now) c.jobs_of.result c.jobs_of.ensures
