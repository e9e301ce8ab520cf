use Rattle.std.proofs.Common.{ℕ, ◌<◌}
use Rattle.grove_access.specs.Lists.{nodes_of, AreNodes}
use Rattle.grove_core.specs.Runs.{list_of}
use Rattle.grove_core.proofs.fitting.all_fit.Given as goal

abbrev pub invariant-loop-txn : goal.invariant-loop-txn
invariant-loop-txn l = (t : ℕ) → t < l.txn → AreNodes l.tree (nodes_of (list_of l.jobs t))
