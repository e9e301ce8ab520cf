use Rattle.std.proofs.Common.{◌≡◌, suc, List, [], ◌∷◌, map, refl, arith}
use Rattle.grove_tree.specs.Trees.{Rows, weight_of}
use Rattle.grove_access.proofs.Lists.{nodes_length}
use Rattle.grove_span.specs.declared.row.SpanRow.{SpanRow}
use Rattle.grove_span.specs.SpanRows.{HaveWeights}
use Rattle.grove_build.specs.Networks.{weights_of}
use Rattle.grove_build.proofs.planning.plan_rows.Goals as goal

-- the rows' weights are those of their nodes
weights_same : (tree : Rows) (rows : List SpanRow) → HaveWeights tree rows → map (λ row. row.weight) rows ≡ weights_of
    tree rows
weights_same tree [] have = refl
weights_same tree (row ∷ rows) have =
    let own : row.weight ≡ weight_of tree row.node = have 0 row refl in
    rw (own, weights_same tree rows (λ i. have (suc i))) refl

pub solve_rows-requires-clause-weights : goal.solve_rows-requires-clause-weights
solve_rows-requires-clause-weights c = grind (arith, weights_same)

pub solve_rows-requires-clause-slots : goal.solve_rows-requires-clause-slots
solve_rows-requires-clause-slots c = rw (c.deref-2.ensures.value, nodes_length c.args.list.now) c.in_ok-slots.ensures

pub settle-requires-clause-weights : goal.settle-requires-clause-weights
settle-requires-clause-weights c = grind (arith, weights_same)

pub settle-requires-clause-slots : goal.settle-requires-clause-slots
settle-requires-clause-slots c = rw (c.deref-4.ensures.value, nodes_length c.args.list.now) c.in_ok-slots.ensures

pub settle-requires-clause-solved : goal.settle-requires-clause-solved
settle-requires-clause-solved c = c.in_ok-solved.ensures
