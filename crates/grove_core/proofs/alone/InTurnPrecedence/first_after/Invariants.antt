use Rattle.std.proofs.Common.{◌≡◌, ℕ, ◌<◌, false, get_or}
use Rattle.grove_core.specs.Alone.{comes_after}
use Rattle.grove_core.proofs.alone.InTurnPrecedence.first_after.Given as goal

abbrev pub invariant-loop-index : goal.invariant-loop-index
invariant-loop-index l = (k : ℕ) → k < l.index → comes_after l.self.jobs.now l.txn (get_or l.order k 0) ≡ false
