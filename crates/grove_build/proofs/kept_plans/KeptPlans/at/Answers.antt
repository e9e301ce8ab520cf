use Rattle.grove_base.proofs.Lists.{get_map, get_map_inv}
use Rattle.grove_build.proofs.Keeping.{kept_at}
use Rattle.grove_build.proofs.kept_plans.KeptPlans.at.Goals as goal

pub returns : goal.returns
returns c =
    let entries = c.self.inside.plans.entries in
    let (entry, there, same) = get_map_inv (λ entry. entry.1) entries c.args.place c.index.result.now c.index.ensures in
    rw (← c.self.view_is) (kept_at (λ key. key.items) entry, get_map (kept_at (λ key. key.items)) entries c.args.place entry there, same)
