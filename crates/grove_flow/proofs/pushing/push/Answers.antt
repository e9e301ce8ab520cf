use Rattle.grove_flow.proofs.Sending.{moving_more}
use Rattle.grove_flow.proofs.pushing.push.Goals as goal

pub loop-v-preserved : goal.loop-v-preserved
loop-v-preserved c = (moving_more c.requires.ways c.loop-v-test.true c.loop-v.invariant c.step_back-v.ensures).0
