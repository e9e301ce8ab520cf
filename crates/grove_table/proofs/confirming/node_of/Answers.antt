use Rattle.std.proofs.Common.{◌≡◌, ◌<◌, Some, length, ltb-true, rules, slice_get, sym, arith}
use Rattle.grove_base.proofs.Lists.{read_at}
use Rattle.grove_table.proofs.Lines.{node_found, node_had}
use Rattle.grove_table.proofs.confirming.node_of.Goals as goal

pub returns-then-is_as_said-clause-line : goal.returns-then-is_as_said-clause-line
returns-then-is_as_said-clause-line c =
    let lines = c.args.lines.now in
    let within : c.args.place < length lines = ltb-true c.args.place (length lines)
    (sym c.in_ok-line.ensures.lookup.0) in
    let at : slice_get lines c.args.place ≡ Some c.in_ok-line.line.now =
    read_at lines c.args.place c.in_ok-line.line.now within c.in_ok-line.ensures.lookup.1 in
    node_found c.args.tree.now c.args.records.now lines c.args.place c.in_ok-line.line.now c.in_ok-node.node
    at (search rules) (search rules) (search rules) (search rules)

pub returns-then-is_as_said-clause-has : goal.returns-then-is_as_said-clause-has
returns-then-is_as_said-clause-has c = grind (arith, ltb-true, node_had, read_at)
