use Rattle.std.proofs.Common.{◌≡◌, take}
use Rattle.std.specs.Prelude.{map, Ok}
use Rattle.serde_json.specs.View.{view}
use Rattle.grove_wire.specs.Outcomes.{each_from}
use Rattle.grove_wire.proofs.Turns.{flow_row_in}
use Rattle.grove_wire.specs.Writing.{flow_row_data}
use Rattle.grove_wire.proofs.plan_values.flow_value.Given as goal

-- the items are the rows so far, and read as these
abbrev pub invariant-loop-row : goal.invariant-loop-row
invariant-loop-row l = record {
  value : map view l.items.items ≡ map (flow_row_data l.tree) (take l.row-index l.flow);
  reads_back : each_from (flow_row_in l.tree) 0 (map view l.items.items) ≡ Ok (take l.row-index l.flow);
}
