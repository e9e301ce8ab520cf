-- The text of a tree's table.
use Rattle.std.specs.Prelude.{ℕ, ℤ, codes, decimal, List, [], ◌∷◌, ◌++◌, length, flat_map}
use Rattle.std.specs.Fmt.{signed_decimal}
use Rattle.grove_base.specs.Numbers.{numbers_below}
use Rattle.grove_tree.specs.Paths.{path_of}
use Rattle.grove_tree.specs.Trees.{Rows, weight_of}
use Rattle.grove_access.specs.Effects.{record_at}

-- a node's line: its path, its weight and its value, with commas between them
abbrev pub line_text : Rows → List ℤ → ℕ → List ℕ
line_text tree records node =
    path_of tree node ++ codes "," ++ decimal (weight_of tree node) ++ codes ","
    ++ signed_decimal (record_at records node) ++ 10 ∷ []

-- a header, and a line for each node, in preorder
abbrev pub table_text : Rows → List ℤ → List ℕ
table_text tree records = codes "path,weight,value\n" ++ flat_map (line_text tree records) (numbers_below (length tree))
