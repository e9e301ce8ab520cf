use Rattle.std.proofs.Common.{rules, arith}
use Rattle.grove_tree.proofs.WeightsByRule.{halves_taken, halves_weighed, halves_counted, changes_within}
use Rattle.grove_tree.proofs.weighing.+weigh_alone.Goals as goal

pub weigh_alone-early-requires : goal.weigh_alone-early-requires
weigh_alone-early-requires g t c κs within =
    let (front, back) = halves_taken (g.U.Rule.takes c.args.rule.now) c.args.first _ c.args.rows.now _ _ c.split_at_mut-front.ensures.value c.split_at_mut-front.ensures.front_len c.requires.taken in
    search (rules, front)

pub weigh_alone-requires : goal.weigh_alone-requires
weigh_alone-requires g t c κs within =
    let (front, back) = halves_taken (g.U.Rule.takes c.args.rule.now) c.args.first _ c.args.rows.now _ _ c.split_at_mut-front.ensures.value c.split_at_mut-front.ensures.front_len c.requires.taken in
    search (rules, back)

pub overflow_add-result : goal.overflow_add-result
overflow_add-result g t c = grind (arith, changes_within, halves_counted)

pub returns-clause-rows : goal.returns-clause-rows
returns-clause-rows g t c = grind (arith, halves_weighed)

pub returns-clause-count : goal.returns-clause-count
returns-clause-count g t c = grind (arith, halves_counted)
