use Rattle.std.proofs.Common.{arith}
use Rattle.grove_tree.proofs.RowMarks.{unset_alone}
use Rattle.grove_tree.proofs.marks.Marks.may_have_twin.Goals as goal

pub returns : goal.returns
returns c = grind (arith, unset_alone)
