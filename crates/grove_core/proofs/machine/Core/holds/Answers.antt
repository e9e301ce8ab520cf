use Rattle.std.proofs.Common.{◌∙◌}
use Rattle.grove_core.specs.Kept.{past_of}
use Rattle.grove_core.proofs.CarriedEntries.{holder_tells}
use Rattle.grove_core.proofs.machine.Core.holds.Goals as goal

pub returns : goal.returns
returns c = c.is_owner.ensures ∙ holder_tells c.args.self.now.jobs (past_of c.args.self.now) c.args.txn c.args.node c.holder.result c.holder.ensures
