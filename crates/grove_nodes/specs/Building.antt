-- For the proofs alone: rows whose names are their numbers.
use Rattle.std.specs.Prelude.{◌≡◌, ℕ, zero, suc, List, [], length, map, Option, Some, None, decimal}
use Rattle.grove_base.specs.Numbers.{numbers_below}
use Rattle.grove_tree.specs.Trees.{Rows, NodeRow}

-- the root has no name, and the name of each other row is its number
abbrev pub number_name : ℕ → List ℕ
number_name zero = []
number_name (suc place) = decimal (suc place)

abbrev pub told_parent : ℕ → ℕ → Option ℕ
told_parent zero parent = None
told_parent (suc place) parent = Some parent

abbrev pub row_at : ℕ → ℕ → ℕ → NodeRow
row_at place parent weight = record { parent = told_parent place parent; name = number_name place; weight = weight }

abbrev pub AreNamedByNumber : Rows → Type 0
AreNamedByNumber rows = map (λ row. row.name) rows ≡ map number_name (numbers_below (length rows))
