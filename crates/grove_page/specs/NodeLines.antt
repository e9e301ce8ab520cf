-- What is told of the nodes of a store.
use Rattle.std.specs.Prelude.{ℕ, ℤ, ◌<◌, Bool, true, codes, List, ◌∷◌, ◌++◌, [], length, Option, Some, None}
use Rattle.std.specs.Prelude.{option_map}
use Rattle.serde_json.specs.Data.{object, member, no_members}
use Rattle.serde_json.specs.Written.{compact_text}
use Rattle.grove_base.specs.Numbers.{passing_below}
use Rattle.grove_tree.specs.Trees.{Rows, is_above}
use Rattle.grove_tree.specs.Paths.{node_at}
use Rattle.grove_page.specs.declared.nodes.Part.{Part}
use Rattle.grove_page.specs.declared.nodes.Part.TheVariants.{Whole, Below}
use Rattle.grove_wire.specs.Writing.{array_of, count_data}
use Rattle.grove_wire.specs.Documents.{node_data}

-- every node, or those at or below one
abbrev pub is_told : Rows → Part → ℕ → Bool
is_told rows Whole node = true
is_told rows (Below top) node = is_above rows top node

-- in the tree's order, where each of them is, its record, its waits and its weight, and how many rounds were run
abbrev pub line_of_nodes : Rows → List ℤ → List ℕ → ℕ → Part → List ℕ
line_of_nodes rows records waits round part = compact_text (object
    (member (codes "nodes") (array_of (node_data rows records waits) (passing_below (length rows) (is_told rows part)))
    (member (codes "round") (count_data round) no_members))) ++ 10 ∷ []

-- the part with a node and those below it, if there is such a node; or the whole
abbrev pub part_of : Rows → Option (List ℕ) → Option Part
part_of rows None = Some Whole
part_of rows (Some path) = option_map Below (node_at rows path)

-- a node that is there, if one is given
abbrev pub IsWithin : Rows → Part → Type 0
IsWithin rows Whole = Unit {0}
IsWithin rows (Below top) = top < length rows
