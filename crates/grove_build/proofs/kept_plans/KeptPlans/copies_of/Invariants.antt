use Rattle.std.proofs.Common.{take}
use Rattle.std.specs.List.{AllZip}
use Rattle.grove_build.specs.Keeping.{IsCopyFor}
use Rattle.grove_build.proofs.kept_plans.KeptPlans.copies_of.Given as goal

abbrev pub invariant-loop-list : goal.invariant-loop-list
invariant-loop-list l = AllZip (IsCopyFor l.self) (take l.list-index l.lists) l.copies.items
