use Rattle.std.proofs.Common.{ℕ, ◌+◌, ◌*◌, ◌^◌, ◌<◌, ◌≤◌, length}
use Rattle.grove_base.specs.Numbers.{sum_below}
use Rattle.grove_core.specs.Runs.{plan_of}
use Rattle.grove_core.specs.RunBounds.{lock_steps}
use Rattle.grove_core.proofs.opening.room.Given as goal

abbrev pub invariant-loop-txn : goal.invariant-loop-txn
invariant-loop-txn l = record {
  enough : sum_below l.txn (λ t. length (plan_of l.jobs t) + lock_steps (plan_of l.jobs t)) ≤ l.room;
  small : l.room ≤ l.txn * 2 ^ 33;
  short : (t : ℕ) → t < l.txn → length (plan_of l.jobs t) < 2 ^ 32;
}
