use Rattle.grove_log.proofs.Crash.{head_is}
use Rattle.grove_log.proofs.reading.push_head.Goals as goal

pub returns : goal.returns
returns c =
    head_is c.args.out.now.items _ _ _ _ _ c.args.number.now.bytes c.in_ok-extend_from_slice.ensures.items
    c.in_ok-extend_from_slice-2.ensures.items c.in_ok-extend_from_slice-3.ensures.items c.as_bytes.ensures.value
    c.to_le_bytes.ensures
