-- For the proofs alone: what is left of a path below a node, and marks of names.
use Rattle.std.specs.Prelude.{◌≡◌, ⊤, ℕ, ◌+◌, ◌*◌, ◌%◌, ◌^◌, ◌==◌, List, [], ◌∷◌, ◌++◌, if◌then◌else◌, Some}
use Rattle.grove_tree.specs.Trees.{Rows, parent_of, name_of}

-- what is left of a path below a node: nothing, or more names, each after a slash
abbrev pub IsRest : List ℕ → Type 0
IsRest [] = ⊤
IsRest (byte ∷ bytes) = byte ≡ 47

-- the path begins with a slash and the name, and goes on with the rest
abbrev pub GoesOn : List ℕ → List ℕ → List ℕ → Type 0
GoesOn path name rest = IsRest rest × (path ≡ 47 ∷ name ++ rest)

-- the node is below that parent, and its name comes next in the path, which goes on with the rest
abbrev pub IsChildOn : Rows → ℕ → List ℕ → ℕ → List ℕ → Type 0
IsChildOn rows parent path child rest = (parent_of rows child ≡ Some parent) × GoesOn path (name_of rows child) rest

-- the mark of the bytes before the first slash, after those with this mark
abbrev pub mark_from : ℕ → List ℕ → ℕ
mark_from mark [] = mark
mark_from mark (byte ∷ bytes) = if byte == 47 then mark else mark_from ((mark * 31 + byte) % 2 ^ 32) bytes

-- a mark of a name: equal names have equal marks
abbrev pub mark_of : List ℕ → ℕ
mark_of name = mark_from 0 name
