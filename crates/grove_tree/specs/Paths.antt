-- Paths: a slash, or the names on the way down from the root, each after a slash.
use Rattle.std.specs.Prelude.{ℕ, zero, suc, List, [], ◌∷◌, ◌++◌, length, Option, Some, None, find, bytes_eq}
use Rattle.grove_base.specs.Numbers.{numbers_below}
use Rattle.grove_tree.specs.Trees.{Rows, parent_of, name_of}

-- a name after what stands before it, and nothing at the root
abbrev pub name_below : (ℕ → List ℕ) → List ℕ → Option ℕ → List ℕ
name_below names name None = []
name_below names name (Some parent) = names parent ++ 47 ∷ name

-- the names above and at a node, looked for at most so many steps up
abbrev pub names_within : Rows → ℕ → ℕ → List ℕ
names_within rows zero node = []
names_within rows (suc n) node = name_below (names_within rows n) (name_of rows node) (parent_of rows node)

-- a slash alone where there is no name
abbrev pub or_slash : List ℕ → List ℕ
or_slash [] = 47 ∷ []
or_slash (byte ∷ bytes) = byte ∷ bytes

abbrev pub path_of : Rows → ℕ → List ℕ
path_of rows node = or_slash (names_within rows (length rows) node)

-- the node with a path, if there is one
abbrev pub node_at : Rows → List ℕ → Option ℕ
node_at rows path = find (λ node. bytes_eq (path_of rows node) path) (numbers_below (length rows))
