use Rattle.std.proofs.Common.{◌≡◌}
use Rattle.std.specs.Prelude.{map, length}
use Rattle.serde_json.specs.View.{view}
use Rattle.grove_tree.specs.BuiltRows.{rows_of}
use Rattle.grove_wire.specs.Reading.{columns_of}
use Rattle.grove_wire.proofs.Each.{rest_read}
use Rattle.grove_wire.proofs.Columns.{with_columns}
use Rattle.grove_wire.proofs.Turns.{row_in}
use Rattle.grove_wire.proofs.nodes.read_rows.Given as goal

-- what is read so far, and then what is left, is what the whole reads as; there are as many records as rows
abbrev pub invariant-loop-at : goal.invariant-loop-at
invariant-loop-at l = record {
  read : with_columns (rows_of l.rows.items) l.values.items (rest_read row_in l.items l.at)
      ≡ columns_of (map view l.items);
  same : length l.values.items ≡ length l.rows.items;
}
