use Rattle.std.proofs.Common.{take}
use Rattle.std.specs.List.{AllZip}
use Rattle.grove_access.specs.Lists.{nodes_of, lengths_of}
use Rattle.grove_build.specs.Settled.{IsSettled}
use Rattle.grove_build.specs.KeptPlans.{AreSettledFor}
use Rattle.grove_build.proofs.kept_plans.KeptPlans.plan_each.Given as goal

abbrev pub invariant-loop-list : goal.invariant-loop-list
invariant-loop-list l = record {
  plans : AllZip (λ list plan. IsSettled l.tree (nodes_of list) (lengths_of list) plan) (take l.list-index l.lists) l.plans.items;
  settled : AreSettledFor l.tree l.self;
}
