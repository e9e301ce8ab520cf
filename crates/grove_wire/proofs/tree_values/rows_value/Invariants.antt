use Rattle.std.proofs.Common.{◌≡◌, ℕ, ◌<◌, w64}
use Rattle.std.specs.Prelude.{map, Ok, FitsSigned}
use Rattle.serde_json.specs.View.{view}
use Rattle.grove_base.specs.Numbers.{numbers_below}
use Rattle.grove_access.specs.Effects.{record_at}
use Rattle.grove_wire.specs.Documents.{row_data}
use Rattle.grove_wire.specs.Outcomes.{each_from}
use Rattle.grove_wire.proofs.Stored.{stored_rows}
use Rattle.grove_wire.proofs.Turns.{row_in}
use Rattle.grove_wire.proofs.tree_values.rows_value.Given as goal

-- the items are the rows so far, and read as these; the records so far are numbers of 64 bits
abbrev pub invariant-loop-number : goal.invariant-loop-number
invariant-loop-number l = record {
  value : map view l.items.items ≡ map (row_data l.tree l.records) (numbers_below l.number);
  reads_back : each_from row_in 0 (map view l.items.items) ≡ Ok (stored_rows l.tree l.records l.number);
  records : (node : ℕ) → node < l.number → FitsSigned w64 (record_at l.records node);
}
