use Rattle.std.proofs.Common.{◌≡◌, ◌-◌, ◌^◌, ◌<◌, sym, ap, subst, arith}
use Rattle.grove_tree.specs.Trees.{Rows}
use Rattle.grove_build.specs.SettledJobs.{AreSettledJobs}
use Rattle.grove_store.specs.StoreStates.{StoreState}
use Rattle.grove_store.proofs.Beginning.{jobs_left}
use Rattle.grove_store.proofs.store.Store.begin_batch.Goals as goal

pub returns-clause-begun : goal.returns-clause-begun
returns-clause-begun g c =
    let before = c.args.self.now in
    let lists = c.args.round.lists.items in
    let same : before.rounds ≡ c.self.inside.rounds = sym (ap (λ (s : StoreState). s.rounds) c.self.view_is) in
    let room : before.rounds < 2 ^ 64 - 1 = omega (arith, same, c.if-self.false, c.self.invariant.0.counted) in
    let settled : AreSettledJobs before.rows lists c.in_ok-jobs.jobs.items =
    subst (λ (rows : Rows). AreSettledJobs rows lists c.in_ok-jobs.jobs.items)
    (ap (λ (s : StoreState). s.rows) c.self.view_is) c.in_ok-jobs.ensures.jobs in
    (jobs_left before lists c.in_ok-jobs.jobs.items _ room c.requires.counts c.requires.few settled, c.self.view_is)

pub returns-clause-runs : goal.returns-clause-runs
returns-clause-runs g c =
    let before = c.args.self.now in
    let lists = c.args.round.lists.items in
    let settled : AreSettledJobs before.rows lists c.in_ok-jobs.jobs.items =
    subst (λ (rows : Rows). AreSettledJobs rows lists c.in_ok-jobs.jobs.items)
    (ap (λ (s : StoreState). s.rows) c.self.view_is) c.in_ok-jobs.ensures.jobs in
    λ replies left runs room. runs lists settled
