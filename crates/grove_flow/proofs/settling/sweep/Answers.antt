use Rattle.std.proofs.Common.{◌≡◌, length, arith}
use Rattle.grove_flow.proofs.Lowering.{swept_lowered, swept_still, swept_lawful}
use Rattle.grove_flow.proofs.settling.sweep.Goals as goal
use Rattle.grove_flow.proofs.settling.sweep.Goals.{then-lower, else-lower}

pub loop-step-preserved : goal.loop-step-preserved
loop-step-preserved c = elim c.if-lower.branch [
  | then-lower w ↦ rw w.lowered-is (swept_lowered c.arc_at-i.result c.arc_at-i.ensures.within c.loop-step.invariant c.lower.auto.places c.lower.ensures.kept
      (c.lower.ensures.lowered w.if-lower.true))
  | else-lower w ↦ rw w.lowered-is (swept_still c.arc_at-i.result c.lower.new.places c.arc_at-i.ensures.is c.loop-step.invariant
      (c.lower.ensures.still w.if-lower.false) (c.lower.ensures.lawful w.if-lower.false))
]

pub returns-clause-lawful : goal.returns-clause-lawful
returns-clause-lawful c = let all : c.loop-step.step ≡ length c.args.arcs.now = omega arith in swept_lawful (rw all at c.loop-step.invariant)
