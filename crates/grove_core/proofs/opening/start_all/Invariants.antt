use Rattle.std.proofs.Common.{◌≡◌, ℕ, length, Some}
use Rattle.std.specs.List.{slice_get}
use Rattle.grove_core.specs.declared.progress.Progress.{Progress}
use Rattle.grove_core.specs.Runs.{list_of, plan_of}
use Rattle.grove_core.specs.RunBounds.{lock_steps}
use Rattle.grove_core.specs.Starts.{HasStarted}
use Rattle.grove_core.proofs.opening.start_all.Given as goal

abbrev pub invariant-loop-txn : goal.invariant-loop-txn
invariant-loop-txn l = record {
  number : length l.progress.items ≡ l.txn;
  started : (t : ℕ) (progress : Progress) → slice_get l.progress.items t ≡ Some progress → HasStarted (lock_steps (plan_of l.jobs t)) (length (list_of l.jobs t)) progress;
}
