-- Rows with the same parents and weights.
use Rattle.std.proofs.Common.{◌≡◌, ℕ, zero, suc, ◌<◌, List, [], ◌∷◌, length, map, slice_get, Option, Some, None, refl}
use Rattle.std.proofs.Common.{ap, sym, ◌∙◌, arith}
use Rattle.std.specs.Option.{option_map, option_and_then, unwrap_or}
use Rattle.grove_base.proofs.Lists.{map_length}
use Rattle.grove_tree.specs.Trees.{Rows, NodeRow, parent_of, weight_of, depth_of, depth_within, IsTree}
use Rattle.grove_cut.specs.CutTrees.{IsCut}
use Rattle.grove_cut.proofs.CutTrees.{cut_is_tree, depth_at_origin}
use Rattle.grove_nodes.specs.Shapes.{HaveShape, told_parents}

abbrev parents_in : Rows → List (Option ℕ)
parents_in rows = map (λ (row : NodeRow). row.parent) rows

abbrev weights_in : Rows → List ℕ
weights_in rows = map (λ (row : NodeRow). row.weight) rows

parent_at : (rows : Rows) (node : ℕ) → parent_of rows node ≡ option_and_then (λ (o : Option ℕ). o)
    (slice_get (parents_in rows) node)
parent_at [] node = refl
parent_at (row ∷ rows) zero = refl
parent_at (row ∷ rows) (suc node) = parent_at rows node

weight_at : (rows : Rows) (node : ℕ) → weight_of rows node ≡ unwrap_or (slice_get (weights_in rows) node) 0
weight_at [] node = refl
weight_at (row ∷ rows) zero = refl
weight_at (row ∷ rows) (suc node) = weight_at rows node

told_length : (parents : List ℕ) → length (told_parents parents) ≡ length parents
told_length [] = refl
told_length (first ∷ parents) = ap suc (map_length Some parents)

-- there are as many rows as parents, and as weights
pub sizes : (parents weights : List ℕ) (rows : Rows) → HaveShape parents weights rows
    → (length parents ≡ length rows) × (length weights ≡ length rows)
sizes parents weights rows is = grind (arith, map_length, told_length)

module _ (parents weights : List ℕ) (a b : Rows) (is : HaveShape parents weights a)
    (other : HaveShape parents weights b) where
  pub same_length : length a ≡ length b
  same_length = sym ((sizes parents weights a is).0) ∙ (sizes parents weights b other).0

  pub same_parent : (node : ℕ) → parent_of a node ≡ parent_of b node
  same_parent node = grind (arith, parent_at)

  pub same_weight : (node : ℕ) → weight_of a node ≡ weight_of b node
  same_weight node = grind (arith, weight_at)

  -- what is cut from a tree may have other names
  pub cut_alike : (whole : Rows) (origin : ℕ → ℕ) → IsCut whole a origin → IsCut whole b origin
  cut_alike whole origin cut = grind (arith, same_length, same_parent, same_weight)

map_itself : (o : Option ℕ) → o ≡ option_map (λ (n : ℕ). n) o
map_itself None = refl
map_itself (Some n) = refl

-- rows are cut from themselves
pub cut_itself : (rows : Rows) → 0 < length rows → IsCut rows rows (λ (n : ℕ). n)
cut_itself rows some = grind (arith, map_itself)

module _ (parents weights : List ℕ) (a b : Rows) (is : HaveShape parents weights a)
    (other : HaveShape parents weights b) (tree : IsTree a) where
  cut_from : IsCut a b (λ (n : ℕ). n)
  cut_from = cut_alike parents weights a b is other a (λ (n : ℕ). n) (cut_itself a tree.some)

  -- rows with the parents of a tree are one
  pub tree_alike : IsTree b
  tree_alike = cut_is_tree a b (λ (n : ℕ). n) cut_from tree

  -- with nodes as deep
  pub depth_alike : (node : ℕ) → depth_of b node ≡ depth_of a node
  depth_alike node = depth_at_origin a b (λ (n : ℕ). n) cut_from (length b) node
      ∙ ap (λ (n : ℕ). depth_within a n node) (sym (same_length parents weights a b is other))
