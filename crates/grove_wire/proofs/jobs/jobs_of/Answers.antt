use Rattle.std.proofs.Common.{rules}
use Rattle.grove_wire.specs.Histories.{job_at}
use Rattle.grove_wire.proofs.Each.{gives_numbered}
use Rattle.grove_wire.proofs.jobs.jobs_of.Goals as goal

pub returns : goal.returns
returns c =
    gives_numbered _ _ _ 256 _ _ c.whole.ensures c.args.items.now c.read_few.result c.read_few.ensures.all
    c.read_few.ensures.stopped (job_at c.args.tree.now c.args.version)
    (λ at shown r is. search rules)
