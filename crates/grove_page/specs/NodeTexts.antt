-- For the proofs alone: the text of what is told of nodes.
use Rattle.std.specs.Prelude.{◌≡◌, ℕ, ℤ, Bool, true, false, List, [], ◌∷◌, ◌++◌, map, codes, decimal}
use Rattle.std.specs.Fmt.{signed_decimal}
use Rattle.json.specs.Print.{quoted}
use Rattle.serde_json.specs.Written.{compact_text, comma_if}
use Rattle.grove_base.specs.Numbers.{numbers_below}
use Rattle.grove_tree.specs.Trees.{Rows}
use Rattle.grove_tree.specs.Paths.{path_of}
use Rattle.grove_wire.specs.Documents.{node_data}

-- what a node's entry begins with, up to its record
abbrev pub entry_start : Rows → ℕ → List ℕ
entry_start rows node = codes "{\"path\":" ++ (quoted (path_of rows node) ++ codes ",\"record\":")

-- those of the first nodes, so many of them, by their numbers
abbrev pub AreStarts : Rows → ℕ → List (List ℕ) → Type 0
AreStarts rows count starts = starts ≡ map (entry_start rows) (numbers_below count)

-- and what an entry goes on with
abbrev pub entry_end : ℤ → ℕ → ℕ → List ℕ
entry_end value waits weight =
    signed_decimal value
    ++ (codes ",\"waits\":" ++ (decimal waits ++ (codes ",\"weight\":" ++ (decimal weight ++ 125 ∷ []))))

-- one node's entry after the other, with commas between them, and before the first if others stand there
abbrev pub entries_text : Rows → List ℤ → List ℕ → Bool → List ℕ → List ℕ
entries_text rows records waits later [] = []
entries_text rows records waits later (node ∷ nodes) =
    comma_if later ++ (compact_text (node_data rows records waits node) ++ entries_text rows records waits true nodes)

-- is there a node?
abbrev pub has_some : List ℕ → Bool
has_some [] = false
has_some (node ∷ nodes) = true
