use Rattle.std.proofs.Common.{rules, arith}
use Rattle.grove_table.specs.declared.fault.TableFault.{TableFault}
use Rattle.grove_table.specs.Refusals.{AreLinesRefused}
use Rattle.grove_table.proofs.SpareLines.{inner_refused, orphan_refused, spare_refused}
use Rattle.grove_table.proofs.tree_making.tree_of.Goals as goal

pub returns-in_err-sprouts-clause-refused : goal.returns-in_err-sprouts-clause-refused
returns-in_err-sprouts-clause-refused c = grind (arith, spare_refused)

pub returns-in_err-see_parents-clause-refused : goal.returns-in_err-see_parents-clause-refused
returns-in_err-see_parents-clause-refused c =
    let fault : TableFault = c.in_err-see_parents.field-0.0 in
    let why : AreLinesRefused c.args.absent c.args.lines.now fault =
    orphan_refused c.args.absent c.args.lines.now fault (search rules) c.in_ok-sprouts.ensures.none (search rules) in
    search (rules, why)

pub returns-in_err-grown-clause-refused : goal.returns-in_err-grown-clause-refused
returns-in_err-grown-clause-refused c = grind (arith, inner_refused)
