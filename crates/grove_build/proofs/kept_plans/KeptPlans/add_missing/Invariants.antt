use Rattle.std.specs.Cmp.Lexicographic.{pointwise}
use Rattle.grove_build.proofs.Missing.{AreMissingOf}
use Rattle.grove_build.proofs.TargetLists.{targets_from, is_same}
use Rattle.grove_build.proofs.kept_plans.KeptPlans.add_missing.Given as goal

abbrev pub invariant-loop-list : goal.invariant-loop-list
invariant-loop-list l = AreMissingOf (λ key. targets_from key.items) (λ a b. pointwise is_same a.items b.items) l.self
    l.lists l.list-index l.parts.entries
