use Rattle.std.proofs.Common.{◌≡◌, ℕ, ◌<◌, false, get_or}
use Rattle.grove_core.specs.Orders.{locked_after}
use Rattle.grove_core.specs.Kept.{past_of}
use Rattle.grove_core.proofs.preceding.CorePrecedence.first_after.Given as goal

abbrev pub invariant-loop-index : goal.invariant-loop-index
invariant-loop-index l =
    (k : ℕ) → k < l.index → locked_after l.self.jobs (past_of l.self) l.txn (get_or l.order k 0) ≡ false
