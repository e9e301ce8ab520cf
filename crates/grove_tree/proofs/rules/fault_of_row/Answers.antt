use Rattle.std.proofs.Common.{suc, sym, arith}
use Rattle.grove_tree.specs.BuiltRows.{rows_of}
use Rattle.grove_tree.proofs.WellPlaced.{placed_rising, placed_next}
use Rattle.grove_tree.proofs.rules.fault_of_row.Goals as goal

pub is_row_well_placed-requires-clause-rising : goal.is_row_well_placed-requires-clause-rising
is_row_well_placed-requires-clause-rising c = placed_rising (rows_of c.args.rows.now) c.args.row c.requires.placed

pub depth_of_row-requires-clause-rising : goal.depth_of_row-requires-clause-rising
depth_of_row-requires-clause-rising c = λ low parent le own.
    placed_rising (rows_of c.args.rows.now) (suc c.args.row)
    (placed_next (rows_of c.args.rows.now) c.args.row c.requires.placed (sym c.if-not-is_row_well_placed.ensures))
    low parent (omega arith) own
