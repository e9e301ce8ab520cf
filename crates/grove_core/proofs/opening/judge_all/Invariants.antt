use Rattle.std.proofs.Common.{◌≡◌, ℕ, ◌<◌, None}
use Rattle.grove_access.specs.Lists.{nodes_of}
use Rattle.grove_plan.specs.Plans.{IsLegal}
use Rattle.grove_core.specs.Runs.{list_of, plan_of}
use Rattle.grove_core.specs.Openings.{job_fault}
use Rattle.grove_core.proofs.opening.judge_all.Given as goal

abbrev pub invariant-loop-txn : goal.invariant-loop-txn
invariant-loop-txn l = record {
  legal : (t : ℕ) → t < l.txn → IsLegal l.tree (nodes_of (list_of l.jobs t)) (plan_of l.jobs t);
  faultless : (t : ℕ) → t < l.txn → job_fault l.tree l.jobs t ≡ None;
}
