use Rattle.std.proofs.Common.{rules}
use Rattle.grove_session.proofs.Written.{writes_on}
use Rattle.grove_session.proofs.whole.write_until_cut.Goals as goal

pub loop-written-preserved : goal.loop-written-preserved
loop-written-preserved g c = (
  writes_on c.args.bytes.now c.loop-written.written c.in-Ok.count _ _ _ c.loop-written.invariant.0 c.in-Ok.ensures.bytes,
  search rules,
  search rules,
)
