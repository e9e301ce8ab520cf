use Rattle.std.proofs.Common.{◌≡◌}
use Rattle.std.specs.Prelude.{map, vec_len}
use Rattle.serde_json.specs.View.{view}
use Rattle.grove_wire.specs.Outcomes.{each_from}
use Rattle.grove_wire.proofs.Turns.{flow_row_in}
use Rattle.grove_wire.proofs.Each.{with_front, rest_read}
use Rattle.grove_wire.proofs.flows.read_flow_rows.Given as goal

-- what is read so far, and then what is left, is what the whole reads as
abbrev pub invariant-loop-at : goal.invariant-loop-at
invariant-loop-at l = record {
  read : with_front l.rows.items (rest_read (flow_row_in l.fn.finder) l.items l.at)
      ≡ each_from (flow_row_in l.fn.finder) 0 (map view l.items);
  few : vec_len l.rows ≡ l.at;
  same : l.finder ≡ l.fn.finder;
}
