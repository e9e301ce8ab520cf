use Rattle.std.proofs.Common.{◌≡◌, ◌++◌, List, length, drop}
use Rattle.std.specs.List.{sum_by}
use Rattle.grove_proof.specs.declared.flow.FlowRow.{FlowRow}
use Rattle.grove_build.specs.Networks.{row_width, IsRead}
use Rattle.grove_build.proofs.flow_rows.flow_rows.Given as goal

-- the rest of the flow is read from the rest of the amounts, which are as many as the rest of the arcs
abbrev pub invariant-loop-row : goal.invariant-loop-row
invariant-loop-row l = record {
  size : length l.rest ≡ sum_by row_width (drop l.row-index l.rows);
  goes_on : (later : List FlowRow) → IsRead (drop l.row-index l.rows) l.rest later → IsRead l.rows l.amounts (l.flow.items ++ later);
}
