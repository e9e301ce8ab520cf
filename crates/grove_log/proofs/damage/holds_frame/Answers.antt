use Rattle.std.proofs.Common.{sym, ◌∙◌, arith}
use Rattle.grove_log.proofs.Behind.{holds_here, holds_next, holds_nothing}
use Rattle.grove_log.proofs.damage.holds_frame.Goals as goal

pub loop-rest-preserved : goal.loop-rest-preserved
loop-rest-preserved c = grind (arith, holds_next)

pub returns-then-begins_chain : goal.returns-then-begins_chain
returns-then-begins_chain c = grind (arith, holds_here)

pub returns : goal.returns
returns c = sym (holds_nothing c.loop-rest.rest.now c.in_default.len_below) ∙ c.loop-rest.invariant
