use Rattle.std.proofs.Common.{◌≡◌, ℕ, ◌<◌, length, true, Some}
use Rattle.std.specs.List.{slice_get}
use Rattle.grove_core.specs.Runs.{plan_of}
use Rattle.grove_core.specs.Orders.{first_lock}
use Rattle.grove_core.proofs.opening.mark_firsts.Given as goal

abbrev pub invariant-loop-job : goal.invariant-loop-job
invariant-loop-job l = record {
  number : length l.firsts.items ≡ l.nodes;
  told : (t : ℕ) → t < l.job-index → (node : ℕ) → first_lock (plan_of l.jobs t) ≡ Some node → slice_get l.firsts.items node ≡ Some true;
}
