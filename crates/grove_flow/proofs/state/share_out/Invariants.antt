use Rattle.grove_flow.proofs.Starting.{AreShared}
use Rattle.grove_flow.proofs.state.share_out.Given as goal

abbrev pub invariant-loop-v : goal.invariant-loop-v
invariant-loop-v l = AreShared l.v l.needs l.excess l.unmet
