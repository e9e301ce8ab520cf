use Rattle.std.proofs.Common.{◌≡◌, ℕ, ◌+◌, ◌*◌, ◌<◌, pos, negsuc}
use Rattle.grove_flow.specs.Networks.{place}
use Rattle.grove_bench.proofs.networks.checking.have_weights.Given as goal

abbrev pub invariant-loop-k : goal.invariant-loop-k
invariant-loop-k l =
    (k : ℕ) → k < l.k → (w : ℕ) × (w < 1000) × (place l.needs (2 * k) ≡ negsuc w) × (place l.needs (2 * k + 1) ≡ pos (w + 1))
