use Rattle.grove_build.proofs.TargetLists.{same_targets, compare_same}
use Rattle.grove_build.proofs.Keeping.{found_first, none_stands}
use Rattle.grove_build.proofs.kept_plans.KeptPlans.place_of.Goals as goal

pub returns-clause-first : goal.returns-clause-first
returns-clause-first c =
    rw (← c.self.view_is)
    (found_first (λ key. key.items) _ (λ a b same. same_targets a.items b.items same) c.args.targets.now
    (λ b same. compare_same c.args.targets.now.items b.items same)
    c.self.inside.plans.entries c.get_index_of.result c.get_index_of.ensures.index)

pub returns-clause-none : goal.returns-clause-none
returns-clause-none c =
    rw (← c.self.view_is)
    (none_stands (λ key. key.items) _ (λ a b same. same_targets a.items b.items same) c.args.targets.now (λ b same. compare_same c.args.targets.now.items b.items same)
    c.self.inside.plans.entries c.get_index_of.result c.get_index_of.ensures.index)
