use Rattle.grove_core.proofs.CoreReads.{seen, job_read}
use Rattle.grove_core.proofs.CoreSteps.{held_within}
use Rattle.grove_core.proofs.machine.Core.held_nodes.Goals as goal

pub returns : goal.returns
returns c =
    let core = seen c.self.view_is c.self.invariant in
    record { number = (job_read core c.args.txn c.requires c.index.ensures).holding; within = held_within core c.args.txn }
