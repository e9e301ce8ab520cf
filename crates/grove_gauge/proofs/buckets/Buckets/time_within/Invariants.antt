use Rattle.std.proofs.Common.{ℕ, ◌<◌}
use Rattle.grove_gauge.specs.Shares.{within}
use Rattle.grove_gauge.proofs.buckets.Buckets.time_within.Given as goal

abbrev pub invariant-loop-place : goal.invariant-loop-place
invariant-loop-place l = (k : ℕ) → k < l.place → within l.self.counts k < l.wanted
