use Rattle.std.proofs.Common.{arith, to_z-of_z}
use borrow.Author.Differences.{ints}
use Rattle.grove_flow.proofs.Reaching.{slack_fits}
use Rattle.grove_flow.proofs.tree.slack.Goals as goal

pub overflow_sub-result : goal.overflow_sub-result
overflow_sub-result c = grind (arith, ints, slack_fits, to_z-of_z)

pub overflow_cast-result : goal.overflow_cast-result
overflow_cast-result c = grind (arith, ints, slack_fits, to_z-of_z)

pub returns : goal.returns
returns c =
    let (from, to, least, apart, slack) = slack_fits c.args.arc c.args.places.now c.requires.arc.modest c.requires.near c.requires.met in
    record { slack = simp to_z-of_z (omega (arith, ints)); most = simp to_z-of_z (omega (arith, ints)) }
