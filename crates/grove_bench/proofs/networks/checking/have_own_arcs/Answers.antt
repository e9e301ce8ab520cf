use Rattle.std.proofs.Common.{◌≡◌, ℕ, ◌+◌, ◌*◌, ◌<◌, length, below_more}
use Rattle.grove_flow.specs.Networks.{arc_at}
use Rattle.grove_bench.proofs.networks.checking.have_own_arcs.Goals as goal

pub loop-k-preserved : goal.loop-k-preserved
loop-k-preserved c =
    let arcs = c.args.arcs.now in
    below_more (λ k. (i : ℕ) × (i < length arcs) × ((arc_at arcs i).from ≡ 2 * k) × ((arc_at arcs i).to ≡ 2 * k + 1)) c.loop-k.k c.loop-k.invariant (c.has_arc.ensures c.if-not-has_arc.false)
