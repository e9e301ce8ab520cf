-- Rows without their weights: equal where parents and names are.
use Rattle.std.proofs.Common.{◌≡◌, ℕ, zero, suc, List, [], ◌∷◌, length, Option, Some, refl, sym, ◌∙◌, ap}
use Rattle.std.specs.List.{slice_get}
use Rattle.std.specs.Option.{option_map, option_and_then, unwrap_or}
use Rattle.grove_tree.specs.Trees.{Rows, NodeRow, parent_of, name_of}
use Rattle.grove_tree.specs.Weights.{unweighed}
use Rattle.grove_tree.specs.WeighedRows.{AgreeAt}

-- no row is lost
pub length-unweighed : (rows : Rows) → length (unweighed rows) ≡ length rows
length-unweighed [] = refl
length-unweighed (row ∷ rows) = ap suc (length-unweighed rows)

parent_of-unweighed : (rows : Rows) (node : ℕ) → option_and_then (λ pair. pair.0) (slice_get (unweighed rows) node) ≡ parent_of rows node
parent_of-unweighed [] node = refl
parent_of-unweighed (row ∷ rows) zero = refl
parent_of-unweighed (row ∷ rows) (suc node) = parent_of-unweighed rows node

name_of-unweighed : (rows : Rows) (node : ℕ) → unwrap_or (option_map (λ pair. pair.1) (slice_get (unweighed rows) node)) [] ≡ name_of rows node
name_of-unweighed [] node = refl
name_of-unweighed (row ∷ rows) zero = refl
name_of-unweighed (row ∷ rows) (suc node) = name_of-unweighed rows node

-- rows that are equal save for their weights
pub unweighed_same : (rows others : Rows) → unweighed rows ≡ unweighed others
    → (length rows ≡ length others) × ((node : ℕ) → AgreeAt rows others node)
unweighed_same rows others same = (
  sym (length-unweighed rows) ∙ ap length same ∙ length-unweighed others,
  λ node. (
    sym (parent_of-unweighed rows node) ∙ ap (λ (pairs : List (Option ℕ × List ℕ)). option_and_then (λ pair. pair.0) (slice_get pairs node)) same ∙ parent_of-unweighed others node,
    sym (name_of-unweighed rows node) ∙ ap (λ (pairs : List (Option ℕ × List ℕ)). unwrap_or (option_map (λ pair. pair.1) (slice_get pairs node)) []) same ∙ name_of-unweighed others node,
  ),
)

-- rows that are equal save for their weights agree in each row
pub unweighed_at : (rows others : Rows) (place : ℕ) (row other : NodeRow) → unweighed rows ≡ unweighed others → slice_get rows place ≡ Some row
    → slice_get others place ≡ Some other → (row.parent ≡ other.parent) × (row.name ≡ other.name)
unweighed_at rows others place row other same at there =
    let (parents, names) = (unweighed_same rows others same).1 place in (
      rw (at, there) at parents,
      rw (at, there) at names,
    )
