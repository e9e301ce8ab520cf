use Rattle.std.proofs.Common.{sym, add-one, arith}
use Rattle.grove_tree.specs.BuiltRows.{rows_of}
use Rattle.grove_tree.proofs.FaultlessRows.{rows_ruled, fault_found, fault_not_found}
use Rattle.grove_tree.proofs.rules.fault_of_rows.Goals as goal

pub fault_of_row-fault-requires-clause-placed : goal.fault_of_row-fault-requires-clause-placed
fault_of_row-fault-requires-clause-placed c = grind (arith, rows_ruled)

pub returns-then-is_some : goal.returns-then-is_some
returns-then-is_some c =
    fault_found (rows_of c.args.rows.now) c.loop-row.row _ _ c.loop-row-test.true c.loop-row.invariant.0
    c.fault_of_row-fault.ensures (sym c.if-is_some.ensures)

pub loop-row-preserved : goal.loop-row-preserved
loop-row-preserved c =
    rw add-one (
      fault_not_found (rows_of c.args.rows.now) c.loop-row.row _ c.loop-row.invariant.0 c.fault_of_row-fault.ensures
          (sym c.if-is_some.ensures),
      c.note.ensures,
    )
