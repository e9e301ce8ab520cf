-- Trees that are equal node by node.
use Rattle.std.proofs.Common.{◌≡◌, ℕ, suc, ◌<◌, List, [], ◌∷◌, length, Option, refl, ◌∙◌, ap, ap₂, arith}
use Rattle.grove_tree.specs.Trees.{Rows, NodeRow, weight_of}
use Rattle.grove_tree.specs.Weights.{unweighed}

abbrev row_with : Option ℕ → List ℕ → ℕ → NodeRow
row_with parent name weight = record { parent = parent; name = name; weight = weight }

-- rows with the same parent, name and weight are the same
same_row : (row other : NodeRow) → row.parent ≡ other.parent → row.name ≡ other.name → row.weight ≡ other.weight → row ≡ other
same_row row other parent name weight =
    ap (λ (p : Option ℕ). row_with p row.name row.weight) parent
    ∙ ap (λ (n : List ℕ). row_with other.parent n row.weight) name
    ∙ ap (λ (w : ℕ). row_with other.parent other.name w) weight

-- and so are trees with the same parents, names and weights
pub same_rows : (rows others : Rows) → unweighed rows ≡ unweighed others → ((node : ℕ) → node < length rows → weight_of rows node ≡ weight_of others node) → rows ≡ others
same_rows [] [] names weights = refl
same_rows [] (other ∷ others) names weights = absurd (cc)
same_rows (row ∷ rows) [] names weights = absurd (cc)
same_rows (row ∷ rows) (other ∷ others) names weights =
    let pair : ◌≡◌ {A = Option ℕ × List ℕ} (row.parent, row.name) (other.parent, other.name) = cc in
    let parent : row.parent ≡ other.parent = ap (λ (p : Option ℕ × List ℕ). p.0) pair in
    let name : row.name ≡ other.name = ap (λ (p : Option ℕ × List ℕ). p.1) pair in
    let rest : rows ≡ others = same_rows rows others (cc) (λ node lt. weights (suc node) (omega arith)) in
    ap₂ (λ (r : NodeRow) (rs : Rows). r ∷ rs) (same_row row other parent name (weights 0 (omega arith))) rest
