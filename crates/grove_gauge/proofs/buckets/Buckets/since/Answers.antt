use Rattle.std.proofs.Common.{◌≢◌, ◌<◌, length, arith, below_more, get_or-set_other, get_or-set_same, length-set}
use Rattle.grove_gauge.proofs.buckets.Buckets.since.Goals as goal

pub loop-place-preserved : goal.loop-place-preserved
loop-place-preserved c = record {
  scale = c.loop-place.invariant.scale;
  len = simp length-set c.loop-place.invariant.len;
  counts =
      below_more _ _
      (λ k h. let ne : k ≢ c.loop-place.place = omega arith in rw get_or-set_other (c.loop-place.invariant.counts k h))
      (let lt : c.loop-place.place < length c.loop-place.change.counts = omega arith in
      rw get_or-set_same c.saturating_sub.ensures);
}
