use Rattle.std.proofs.Common.{◌∙◌}
use Rattle.grove_core.proofs.CoreReads.{seen, job_read}
use Rattle.grove_core.proofs.machine.Core.replies.Goals as goal

pub returns : goal.returns
returns c = c.as_slice.ensures ∙ (job_read (seen c.self.view_is c.self.invariant) c.args.txn c.requires c.index.ensures).answers
