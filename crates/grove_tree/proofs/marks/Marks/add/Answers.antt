use Rattle.std.proofs.Common.{arith}
use Rattle.grove_tree.proofs.RowMarks.{set_own, set_others}
use Rattle.grove_tree.proofs.marks.Marks.add.Goals as goal

pub returns-clause-own : goal.returns-clause-own
returns-clause-own c = grind (arith, set_own)

pub returns-clause-others : goal.returns-clause-others
returns-clause-others c = grind (arith, set_others)
