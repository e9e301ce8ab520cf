use Rattle.std.proofs.Common.{sym}
use Rattle.grove_tree.proofs.RowTests.{placed_test}
use Rattle.grove_tree.proofs.rules.is_row_well_placed.Goals as goal

pub returns-then-row-gt0 : goal.returns-then-row-gt0
returns-then-row-gt0 c = placed_test _ _ _ _ c.if-row-gt0.true (sym c.in-Some.ensures) c.requires.rising c.is_on_way.ensures
