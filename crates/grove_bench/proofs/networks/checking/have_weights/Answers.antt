use Rattle.std.proofs.Common.{◌≡◌, ℕ, ◌+◌, ◌*◌, ◌<◌, SFits, w64, pos, negsuc, rules, below_more}
use Rattle.std.proofs.lemmas.Int.{to_z-of_z}
use Rattle.grove_flow.specs.Networks.{place}
use Rattle.grove_bench.proofs.networks.checking.have_weights.Goals as goal

pub loop-k-preserved : goal.loop-k-preserved
loop-k-preserved c =
    let needs = c.args.needs.now in
    let k = c.loop-k.k in
    let lock : SFits w64 (place needs (2 * k)) = search rules in
    let release : SFits w64 (place needs (2 * k + 1)) = search rules in
    let read = rw (to_z-of_z w64 (place needs (2 * k)) lock, to_z-of_z w64 (place needs (2 * k + 1)) release) at (c.are_of_weight.ensures c.if-not-are_of_weight.false) in
    below_more (λ k. (w : ℕ) × (w < 1000) × (place needs (2 * k) ≡ negsuc w) × (place needs (2 * k + 1) ≡ pos (w + 1))) k c.loop-k.invariant read
