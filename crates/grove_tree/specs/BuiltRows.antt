-- For the proofs alone: the rows that a tree is built from, as it sees them.
use Rattle.std.specs.Prelude.{List, map, string_bytes}
use Rattle.grove_tree.specs.Trees.{Rows, NodeRow}
use Rattle.grove_tree.specs.declared.row.Row.{Row}

-- the rows as a tree sees them
abbrev pub row_of : Row → NodeRow
row_of row = record { parent = row.parent; name = string_bytes row.name; weight = row.weight }

abbrev pub rows_of : List Row → Rows
rows_of rows = map row_of rows
