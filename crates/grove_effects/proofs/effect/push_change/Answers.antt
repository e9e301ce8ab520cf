use Rattle.std.proofs.Common.{append_assoc}
use Rattle.grove_effects.proofs.effect.push_change.Goals as goal

pub returns : goal.returns
returns c =
    rw (
      c.in_ok-extend_from_slice-2.ensures.items,
      c.in_ok-extend_from_slice.ensures.items,
      c.to_le_bytes.ensures,
      c.to_le_bytes-2.ensures,
    ) (append_assoc c.args.out.now.items _ _)
