use Rattle.std.proofs.Common.{◌≡◌, map, take}
use Rattle.grove_nodes.specs.Numbered.{row_of}
use Rattle.grove_nodes.proofs.row.rows_of.Given as goal

abbrev pub invariant-loop-row : goal.invariant-loop-row
invariant-loop-row l = l.all.items ≡ map row_of (take l.row-index l.rows)
