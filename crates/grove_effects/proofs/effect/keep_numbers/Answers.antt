use Rattle.std.proofs.Common.{◌≡◌, ◌≢◌, ◌<◌, length, arith, below_more, get_or-set_other, get_or-set_same}
use Rattle.grove_effects.proofs.Putting.{kept_more}
use Rattle.grove_effects.proofs.effect.keep_numbers.Goals as goal

pub loop-place-preserved : goal.loop-place-preserved
loop-place-preserved g c =
    let place = c.loop-place.place in
    let long : length c.loop-place.kept ≡ length c.args.kept.now = c.loop-place.auto.kept in
    let within : place < length c.args.kept.now = omega (arith, c.loop-place-test.true) in
    let there : place < length c.loop-place.kept = omega arith in
    let now = c.in_ok-keep_number.ensures.kept in (
      rw now (kept_more _ _ _ place _ c.loop-place.kept _ c.number.result long within c.loop-place.invariant.0
          c.in_ok-keep_number.ensures.change),
      below_more _ _
          (λ k lt. let ne : k ≢ place = omega arith in rw get_or-set_other (c.loop-place.invariant.1 k lt))
          (rw (get_or-set_same, now) c.number.ensures),
    )
