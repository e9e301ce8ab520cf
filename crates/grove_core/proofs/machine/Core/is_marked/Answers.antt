use Rattle.std.proofs.Common.{arith}
use Rattle.grove_plan.specs.declared.step.Step.TheVariants.{Lock}
use Rattle.grove_core.proofs.CoreReads.{seen, next_read, progress_there}
use Rattle.grove_core.proofs.machine.Core.is_marked.Goals as goal

pub index-requires : goal.index-requires
index-requires c =
    omega (arith, progress_there (seen c.self.view_is c.self.invariant) c.args.txn (Lock c.args.node) c.requires)

pub returns : goal.returns
returns c = (next_read (seen c.self.view_is c.self.invariant) c.args.txn (Lock c.args.node) c.requires c.index.ensures).marks
