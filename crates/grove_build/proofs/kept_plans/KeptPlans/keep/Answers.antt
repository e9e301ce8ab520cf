use Rattle.grove_build.proofs.TargetLists.{same_targets}
use Rattle.grove_build.proofs.Keeping.{inserted_stands, inserted_stay, inserted_adds}
use Rattle.grove_build.proofs.kept_plans.KeptPlans.keep.Goals as goal

pub returns-clause-stands : goal.returns-clause-stands
returns-clause-stands c =
    rw (c.in_ok-place.ensures.entries, c.in_ok-place.ensures.index)
    (inserted_stands (λ key. key.items) _ (λ a b same. same_targets a.items b.items same) c.args.targets c.args.planned
    c.self.inside.plans.entries)

pub returns-clause-others : goal.returns-clause-others
returns-clause-others c =
    rw c.in_ok-place.ensures.entries
    (rw c.self.view_is at (inserted_adds (λ key. key.items) _ (λ a b same. same_targets a.items b.items same)
    c.args.targets c.args.planned c.self.inside.plans.entries))

pub returns-clause-stay : goal.returns-clause-stay
returns-clause-stay c =
    rw c.in_ok-place.ensures.entries
    (rw c.self.view_is at (inserted_stay (λ key. key.items) _ (λ a b same. same_targets a.items b.items same)
    c.args.targets c.args.planned c.self.inside.plans.entries))
