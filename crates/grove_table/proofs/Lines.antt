-- A node that has a line's path, weight and value.
use Rattle.std.proofs.Common.{◌≡◌, ◌<◌, List, ℕ, ℤ, length, Some, arith, slice_get, string_bytes}
use Rattle.grove_access.specs.Effects.{record_at}
use Rattle.grove_tree.specs.Paths.{path_of}
use Rattle.grove_tree.specs.Trees.{Rows, weight_of}
use Rattle.grove_table.specs.declared.line.Line.{Line}
use Rattle.grove_table.specs.Confirming.{HasNode}
use Rattle.grove_table.specs.Tables.{IsOfLine}

-- a node with a line's path, weight and value is that line's
pub node_found : (tree : Rows) (records : List ℤ) (lines : List Line) (place : ℕ) (line : Line) (node : ℕ)
    → slice_get lines place ≡ Some line → node < length tree → path_of tree node ≡ string_bytes line.path
    → weight_of tree node ≡ line.weight → record_at records node ≡ line.value → IsOfLine tree records lines node
node_found tree records lines place line node at within path weight value =
    (place, line, at, record { within = within; path = path; weight = weight; value = value })

-- and so the line at the place has a node
pub node_had : (tree : Rows) (records : List ℤ) (lines : List Line) (place : ℕ) (line : Line) (node : ℕ)
    → slice_get lines place ≡ Some line → node < length tree → path_of tree node ≡ string_bytes line.path
    → weight_of tree node ≡ line.weight → record_at records node ≡ line.value → HasNode tree records lines place
node_had tree records lines place line node at within path weight value other same = grind (arith)
