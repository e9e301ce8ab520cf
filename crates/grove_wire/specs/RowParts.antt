-- For the proofs alone: rows that are made of their parts.
use Rattle.std.specs.Prelude.{ℕ, ℤ, List, Option}
use Rattle.grove_tree.specs.Trees.{NodeRow}
use Rattle.grove_proof.specs.declared.flow.FlowRow.{FlowRow}

-- a row of a tree, and the record of its node
abbrev pub row_with : Option ℕ → List ℕ → ℕ → ℤ → NodeRow × ℤ
row_with parent name weight value = (record { parent = parent; name = name; weight = weight }, value)

-- a path, and a row with these amounts, whose node isn't known yet
abbrev pub flow_with : List ℕ → ℕ → ℕ → ℕ → ℕ → ℕ → List ℕ × FlowRow
flow_with path above held first last own =
    (path, record { node = 0; above = above; held = held; first = first; last = last; own = own })
