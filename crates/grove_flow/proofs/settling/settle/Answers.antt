use Rattle.grove_flow.proofs.Lowering.{kept_floor}
use Rattle.grove_flow.proofs.settling.settle.Goals as goal

pub sweep-requires-clause-floor : goal.sweep-requires-clause-floor
sweep-requires-clause-floor c = kept_floor c.loop-places.invariant c.requires.floor
