use Rattle.grove_flow.proofs.Lowering.{from_kept, from_held, to_either, to_heights, lowered_heights}
use Rattle.grove_flow.proofs.settling.lower.Goals as goal
use Rattle.std.proofs.Common.{arith}

pub returns-then-lower_from-clause-kept : goal.returns-then-lower_from-clause-kept
returns-then-lower_from-clause-kept c = from_kept c.requires.arc.from (c.lower_from.ensures.lowered c.if-lower_from.true)

pub returns-then-lower_from-clause-lowered : goal.returns-then-lower_from-clause-lowered
returns-then-lower_from-clause-lowered c = λ e. lowered_heights c.requires.arc.from
    (from_held c.args.arc c.args.amount c.args.places.now c.requires.floor) (c.lower_from.ensures.lowered e)

pub returns-then-amount-gt0-clause-kept : goal.returns-then-amount-gt0-clause-kept
returns-then-amount-gt0-clause-kept c = to_either c.lower_to.result
    (c.lower_from.ensures.still c.if-lower_from.false) c.requires.arc.to c.if-amount-gt0.true c.lower_to.ensures.lowered c.lower_to.ensures.still

pub returns-then-amount-gt0-clause-lowered : goal.returns-then-amount-gt0-clause-lowered
returns-then-amount-gt0-clause-lowered c = grind (arith, to_heights)
