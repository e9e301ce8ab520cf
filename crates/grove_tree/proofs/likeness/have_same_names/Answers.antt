use Rattle.std.proofs.Common.{arith}
use Rattle.grove_tree.proofs.OwnRows.{own_row}
use Rattle.grove_tree.proofs.SameNames.{unweighed_at}
use Rattle.grove_tree.proofs.likeness.have_same_names.Goals as goal

pub returns-then-not-is_same : goal.returns-then-not-is_same
returns-then-not-is_same c = grind (arith, own_row, unweighed_at)
