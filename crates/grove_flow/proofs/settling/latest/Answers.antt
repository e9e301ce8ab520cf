use Rattle.std.proofs.Common.{◌≡◌, length, drop, ap, ◌∙◌, arith, take_at, to_z-of_z}
use Rattle.grove_flow.proofs.Lowering.{highest_floor, latest_is}
use Rattle.grove_flow.proofs.settling.latest.Goals as goal

pub settle-requires-clause-floor : goal.settle-requires-clause-floor
settle-requires-clause-floor c =
    let high = rw (to_z-of_z c.ranges.top, c.deref.ensures.value, c.requires.solved.size) at c.in_ok-places.ensures.highest in
    rw (c.deref-2.ensures.value, c.deref-3.ensures.value, c.deref_mut.ensures.value)
    (highest_floor c.requires.solved high (rw c.deref.ensures.value at c.in_ok-places.ensures.held))

pub returns : goal.returns
returns c =
    let high = rw (to_z-of_z c.ranges.top, c.deref.ensures.value, c.requires.solved.size) at c.in_ok-places.ensures.highest in
    let size : length c.settle.new.places ≡ c.in_ok-places.places.len = omega arith in
    record {
      latest = rw (take_at c.settle.new.places (drop (length c.settle.new.places) c.in_ok-places.places.items) c.in_ok-places.places.len size)
          (latest_is c.requires.solved high (c.settle.auto.places ∙ ap length c.deref_mut.ensures.value)
          (rw (c.deref-2.ensures.value, c.deref-3.ensures.value) at c.settle.ensures.lawful)
          (rw (c.deref-2.ensures.value, c.deref-3.ensures.value, c.deref_mut.ensures.value) at c.settle.ensures.kept));
    }
