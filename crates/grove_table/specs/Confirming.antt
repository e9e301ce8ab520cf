-- For the proofs alone: what is asked of a text's rows, and confirmed of a tree.
use Rattle.std.specs.Prelude.{◌≡◌, ℕ, ℤ, List, slice_get, Option, Some}
use Rattle.std.specs.Borrow.{Bor}
use Rattle.std.specs.Io.Chain.{chain_remaining}
use Rattle.std.specs.declared.io.traits.Chain.{Chain}
use Rattle.csv.specs.Reading.{default_config}
use Rattle.csv.specs.declared.parser.Config.{Config}
use Rattle.grove_tree.specs.Trees.{Rows}
use Rattle.grove_table.specs.declared.line.Line.{Line}
use Rattle.grove_table.specs.Tables.{IsNodeOf}

-- commas part fields, and a line that begins with `#` is a comment
abbrev pub table_config : Config
table_config = record default_config { comment = Some 35 }

-- what is left of a text with another behind it
abbrev pub known : Chain (Bor (List ℕ)) (Bor (List ℕ)) → Option (List ℕ)
known chain = chain_remaining (λ text. Some text.now) (λ text. Some text.now) chain

-- the line at a place has a node
abbrev pub HasNode : Rows → List ℤ → List Line → ℕ → Type 0
HasNode tree records lines place =
    (line : Line) → slice_get lines place ≡ Some line → (node : ℕ) × IsNodeOf tree records line node
