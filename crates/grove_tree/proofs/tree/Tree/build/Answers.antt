use Rattle.std.proofs.Common.{sym, arith}
use Rattle.grove_tree.specs.BuiltRows.{rows_of}
use Rattle.grove_base.proofs.Lists.{map_length}
use Rattle.grove_tree.proofs.FaultlessRows.{faultless_tree, faultless_within, faulty_refused, fault_not_memory}
use Rattle.grove_tree.proofs.tree.Tree.build.Goals as goal

pub depths_of-requires : goal.depths_of-requires
depths_of-requires c = grind (arith, faultless_tree, faultless_within)

pub invariant_of-result : goal.invariant_of-result
invariant_of-result c = grind (arith, faultless_tree, faultless_within, map_length)

pub returns-in-Some-clause-refused : goal.returns-in-Some-clause-refused
returns-in-Some-clause-refused c = λ other. faulty_refused (rows_of c.args.rows.now) c.in-Some.fault (sym c.in-Some.ensures.fault)

pub returns-in-Some-clause-memory : goal.returns-in-Some-clause-memory
returns-in-Some-clause-memory c = grind (arith, fault_not_memory)
