use Rattle.std.proofs.Common.{◌≡◌, ℕ, ◌<◌, length, reverse}
use Rattle.grove_core.specs.Runs.{steps_done, plan_of}
use Rattle.grove_core.proofs.machine.Core.first_unfinished.Given as goal

abbrev pub invariant-loop-txn : goal.invariant-loop-txn
invariant-loop-txn l = (t : ℕ) → t < l.txn → steps_done (reverse l.self-inside.history.items) t ≡ length (plan_of l.self-inside.jobs.now t)
