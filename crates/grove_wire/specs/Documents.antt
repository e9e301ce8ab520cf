-- The JSON values of a tree with its records and of a store's nodes, with members in the order of their names.
use Rattle.std.specs.Prelude.{ℕ, codes, ℤ, List, length, slice_index, Option, Some, None}
use Rattle.serde_json.specs.Data.{Data, null, string, object, no_members, member}
use Rattle.serde_json.specs.Written.{compact_text}
use Rattle.grove_base.specs.Numbers.{numbers_below}
use Rattle.grove_tree.specs.Trees.{Rows, parent_of, name_of, weight_of}
use Rattle.grove_tree.specs.Paths.{path_of}
use Rattle.grove_access.specs.Effects.{record_at}
use Rattle.grove_wire.specs.Writing.{array_of, number_data, count_data}

-- ---- a document of a tree with its records

abbrev pub parent_data : Option ℕ → Data
parent_data None = null
parent_data (Some parent) = count_data parent

-- the row of a node
abbrev pub row_data : Rows → List ℤ → ℕ → Data
row_data rows records node = object
    (member (codes "name") (string (name_of rows node))
    (member (codes "parent") (parent_data (parent_of rows node))
    (member (codes "value") (number_data (record_at records node))
    (member (codes "weight") (count_data (weight_of rows node)) no_members))))

abbrev pub document_data : Rows → List ℤ → Data
document_data rows records = object
    (member (codes "nodes") (array_of (row_data rows records) (numbers_below (length rows)))
    (member (codes "version") (count_data 1) no_members))

abbrev pub document_text : Rows → List ℤ → List ℕ
document_text rows records = compact_text (document_data rows records)

-- ---- the nodes of a store

-- where a node is, its record, how often a lock of it was waited for, and its weight
abbrev pub node_data : Rows → List ℤ → List ℕ → ℕ → Data
node_data rows records waits node = object
    (member (codes "path") (string (path_of rows node))
    (member (codes "record") (number_data (record_at records node))
    (member (codes "waits") (count_data (slice_index waits node))
    (member (codes "weight") (count_data (weight_of rows node)) no_members))))
