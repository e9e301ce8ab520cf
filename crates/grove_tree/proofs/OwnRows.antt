-- A row of a list as a tree sees it.
use Rattle.std.proofs.Common.{◌≡◌, ℕ, ◌<◌, List, [], length, Option, Some, get_or, ap, string_bytes, arith}
use Rattle.std.specs.List.{slice_get}
use Rattle.std.specs.Option.{option_map, option_and_then, unwrap_or}
use Rattle.std.proofs.lemmas.Option.{slice_get-map, slice_get_read}
use Rattle.grove_tree.specs.Trees.{Rows, NodeRow, parent_of, name_of}
use Rattle.grove_tree.specs.declared.row.Row.{Row}
use Rattle.grove_tree.specs.BuiltRows.{row_of, rows_of}
use Rattle.grove_base.proofs.Lists.{map_length}

-- a row of the list stands in the tree at its number
pub own_row : (rows : List Row) (node : ℕ) (row : Row) → row ≡ get_or rows node row → node < length rows → slice_get (rows_of rows) node ≡ Some (row_of row)
own_row rows node row is within = grind (arith, slice_get-map, slice_get_read)

-- with its parent
pub own_parent : (rows : List Row) (node : ℕ) (row : Row) → row ≡ get_or rows node row → node < length rows → parent_of (rows_of rows) node ≡ row.parent
own_parent rows node row is within = ap (λ (o : Option NodeRow). option_and_then (λ (r : NodeRow). r.parent) o) (own_row rows node row is within)

-- and with its name
pub own_name : (rows : List Row) (node : ℕ) (row : Row) → row ≡ get_or rows node row → node < length rows → name_of (rows_of rows) node ≡ string_bytes row.name
own_name rows node row is within = ap (λ (o : Option NodeRow). unwrap_or (option_map (λ (r : NodeRow). r.name) o) []) (own_row rows node row is within)

-- the name of a tree's node is that of its row
pub name_there : (rows : List Row) (tree : Rows) (node at : ℕ) (row : Row) → rows_of rows ≡ tree → at ≡ node → row ≡ get_or rows at row
    → node < length tree → name_of tree node ≡ string_bytes row.name
name_there rows tree node at row view is read lt = grind (arith, map_length, own_name)
