use Rattle.std.proofs.Common.{◌≡◌, map, take}
use Rattle.grove_nodes.specs.Numbered.{numbered_row}
use Rattle.grove_nodes.proofs.row.numbered_rows.Given as goal

abbrev pub invariant-loop-row : goal.invariant-loop-row
invariant-loop-row l = l.all.items ≡ map numbered_row (take l.row-index l.rows)
