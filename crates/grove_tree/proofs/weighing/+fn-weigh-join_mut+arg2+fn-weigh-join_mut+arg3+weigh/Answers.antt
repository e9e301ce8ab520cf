use Rattle.std.proofs.Common.{◌≡◌, ◌+◌, ◌/◌, length, rules, arith}
use Rattle.grove_tree.specs.BuiltRows.{rows_of}
use Rattle.grove_tree.specs.WeighedRows.{changes_from}
use Rattle.grove_tree.proofs.WeightsByRule.{halves_taken, halves_weighed, halves_counted, changes_within}
use Rattle.grove_tree.proofs.weighing.+fn-weigh-join_mut+arg2+fn-weigh-join_mut+arg3+weigh.Goals as goal

pub join_mut-late-requires-after_bounds : goal.join_mut-late-requires-after_bounds
join_mut-late-requires-after_bounds g t c κs within =
    let (front, back) = halves_taken (g.U.Rule.takes c.args.rule.now) c.args.first _ c.args.rows.now _ _ c.split_at_mut-front.ensures.value c.split_at_mut-front.ensures.front_len c.requires.taken in
    search (rules, front, back)

pub overflow_add-result : goal.overflow_add-result
overflow_add-result g t c = grind (arith, changes_within, halves_counted)

pub returns-clause-rows : goal.returns-clause-rows
returns-clause-rows g t c = grind (arith, halves_weighed)

pub returns-clause-count : goal.returns-clause-count
returns-clause-count g t c =
    let f = g.U.Rule.gives c.args.rule.now in
    let early : c.join_mut-late.result.1 ≡ changes_from f c.args.first (rows_of c.split_at_mut-front.result.0.now) = search rules in
    let late : c.join_mut-late.result.0 ≡ changes_from f (c.args.first + length c.args.rows.now / 2) (rows_of c.split_at_mut-front.result.1.now) = search rules in
    halves_counted (g.U.Rule.gives c.args.rule.now) c.args.first _ c.args.rows.now _ _ _ _ c.split_at_mut-front.ensures.value c.split_at_mut-front.ensures.front_len early late
