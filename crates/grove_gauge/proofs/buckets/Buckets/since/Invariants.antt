use Rattle.std.proofs.Common.{◌≡◌, ℕ, ◌<◌, ◌-◌, length, slice_index}
use Rattle.grove_gauge.proofs.buckets.Buckets.since.Given as goal

abbrev pub invariant-loop-place : goal.invariant-loop-place
invariant-loop-place l = record {
  scale : l.change.scale ≡ l.self.scale;
  len : length l.change.counts ≡ 20;
  counts : (k : ℕ) → k < l.place
      → slice_index l.change.counts k ≡ slice_index l.self.counts k - slice_index l.before.counts k;
}
