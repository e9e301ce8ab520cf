use Rattle.std.proofs.Common.{get_or, pos, rules, arith, SFits, w64}
use borrow.Author.Differences.{ints}
use Rattle.grove_flow.proofs.checking.wide_slack.Goals as goal

pub overflow_sub-result : goal.overflow_sub-result
overflow_sub-result c = grind (arith, ints)

pub returns : goal.returns
returns c =
    let ends : SFits w64 (get_or c.args.places.now c.args.arc.to (pos 0)) × SFits w64 (get_or c.args.places.now c.args.arc.from (pos 0)) = (search rules, search rules) in
    let least : SFits w64 c.args.arc.least = search rules in omega (arith, ints)
