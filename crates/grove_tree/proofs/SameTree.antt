-- The rows of a tree whose nodes get other weights are those of a tree.
use Rattle.std.proofs.Common.{◌≡◌, ℕ, zero, suc, add-zero, zero-add, ◌+◌, ◌<◌, ◌≤◌, ◌==◌, not, Bool, true, false, cond}
use Rattle.std.proofs.Common.{List, [], ◌∷◌, length, Option, Some, None, refl, ◌∙◌, ap, arith}
use Rattle.std.specs.Option.{option_and_then}
use Rattle.std.proofs.lemmas.Bool.{cases_lt}
use Rattle.grove_base.specs.Numbers.{count_below}
use Rattle.grove_tree.specs.Trees.{Rows, parent_of, name_of, weight_of, depth_of, depth_within, one_more, up, IsTree}
use Rattle.grove_tree.specs.Rules.{IsWithinLimits, AreTreeRows}
use Rattle.grove_tree.specs.declared.row.Row.{Row}
use Rattle.grove_tree.specs.BuiltRows.{rows_of}
use Rattle.grove_tree.specs.Depths.{AreDepths}
use Rattle.grove_tree.specs.Weights.{weighed_from, with_weights}
use Rattle.grove_tree.specs.WeighedRows.{changes_from}
use Rattle.grove_base.proofs.Counting.{count_front}
use Rattle.grove_base.proofs.Lists.{map_length}
use Rattle.grove_tree.proofs.WeightsByRule.{length-weighed_from, parent_of-weighed_from}

-- Rows with the same parents

-- both have the same rows save for their weights
pub record AreAlike (rows others : Rows) : Type 0 where
  pub long : length others ≡ length rows
  pub parents : (node : ℕ) → parent_of others node ≡ parent_of rows node
  pub names : (node : ℕ) → name_of others node ≡ name_of rows node

next_alike : (f g : ℕ → Option ℕ) → ((node : ℕ) → f node ≡ g node) → (o : Option ℕ) → option_and_then f o ≡ option_and_then g o
next_alike f g same None = refl
next_alike f g same (Some node) = same node

up_alike : (rows others : Rows) → AreAlike rows others → (n node : ℕ) → up others n node ≡ up rows n node
up_alike rows others alike zero node = refl
up_alike rows others alike (suc n) node = grind (arith, next_alike, up_alike rows others alike n node)

one_more_alike : (f g : ℕ → ℕ) → ((node : ℕ) → f node ≡ g node) → (o : Option ℕ) → one_more f o ≡ one_more g o
one_more_alike f g same None = refl
one_more_alike f g same (Some parent) = ap suc (same parent)

depth_alike : (rows others : Rows) → AreAlike rows others → (n node : ℕ) → depth_within others n node ≡ depth_within rows n node
depth_alike rows others alike zero node = refl
depth_alike rows others alike (suc n) node = grind (arith, one_more_alike, depth_alike rows others alike n)

-- the nodes of such rows are as deep
pub depth_of_alike : (rows others : Rows) → AreAlike rows others → (node : ℕ) → depth_of others node ≡ depth_of rows node
depth_of_alike rows others alike node = ap (λ (n : ℕ). depth_within others n node) alike.long ∙ depth_alike rows others alike (length rows) node

-- such rows are those of a tree too
pub tree_alike : (rows others : Rows) → AreAlike rows others → IsTree rows → IsTree others
tree_alike rows others alike tree =
    let long : length others ≡ length rows = alike.long in
    let some : 0 < length rows = tree.some in
    record {
      some = omega arith;
      root = alike.parents 0 ∙ tree.root;
      preorder = λ node within.
          let (parent, own, (n, way)) = tree.preorder node (omega arith) in
          (parent, alike.parents (suc node) ∙ own, (n, up_alike rows others alike n node ∙ way));
    }

-- and they are within the limits where their weights are
pub limits_alike : (rows others : Rows) → AreAlike rows others → ((node : ℕ) → node < length others → (1 ≤ weight_of others node) × (weight_of others node ≤ 1000))
    → ((node : ℕ) → length others ≤ node → weight_of others node ≡ 0) → IsWithinLimits rows → IsWithinLimits others
limits_alike rows others alike weights none limits =
    let long : length others ≡ length rows = alike.long in
    let few : length rows ≤ 4096 = limits.few in
    record {
      few = omega arith;
      shallow = λ node.
          omega (arith, depth_of_alike rows others alike node, limits.shallow node);
      unnamed_root = alike.names 0 ∙ limits.unnamed_root;
      names = λ node within. rw (alike.names (suc node)) (limits.names node (omega arith));
      differ = grind (arith);
      weighty = λ node within. let (low, high) = weights node within in low;
      light = grind (arith, cases_lt);
    }

-- Weights that a rule gives

name_of-weighed_from : (f : ℕ → ℕ → ℕ) (node : ℕ) (rows : Rows) (place : ℕ) → name_of (weighed_from f node rows) place ≡ name_of rows place
name_of-weighed_from f node [] place = refl
name_of-weighed_from f node (row ∷ rows) zero = refl
name_of-weighed_from f node (row ∷ rows) (suc place) = name_of-weighed_from f (suc node) rows place

weight_of-weighed_from : (f : ℕ → ℕ → ℕ) (node : ℕ) (rows : Rows) (place : ℕ) → place < length rows → weight_of (weighed_from f node rows) place ≡ f (node + place) (weight_of rows place)
weight_of-weighed_from f node [] place lt = absurd (omega arith)
weight_of-weighed_from f node (row ∷ rows) zero lt = rw add-zero refl
weight_of-weighed_from f node (row ∷ rows) (suc place) lt =
    let e : suc node + place ≡ node + suc place = omega arith in
    weight_of-weighed_from f (suc node) rows place (omega arith) ∙ ap (λ (n : ℕ). f n (weight_of rows place)) e

weight_of-past : (f : ℕ → ℕ → ℕ) (node : ℕ) (rows : Rows) (place : ℕ) → length rows ≤ place → weight_of (weighed_from f node rows) place ≡ 0
weight_of-past f node [] place past = refl
weight_of-past f node (row ∷ rows) zero past = absurd (omega arith)
weight_of-past f node (row ∷ rows) (suc place) past = weight_of-past f (suc node) rows place (omega arith)

-- the weight of a node afterwards
pub weight_of-with_weights : (f : ℕ → ℕ → ℕ) (rows : Rows) (node : ℕ) → node < length rows → weight_of (with_weights f rows) node ≡ f node (weight_of rows node)
weight_of-with_weights f rows node lt = weight_of-weighed_from f 0 rows node lt ∙ ap (λ (n : ℕ). f n (weight_of rows node)) (zero-add node)

-- weights that a rule gives leave parents and names
pub alike_weighed : (f : ℕ → ℕ → ℕ) (rows : Rows) → AreAlike rows (with_weights f rows)
alike_weighed f rows = record { long = length-weighed_from f 0 rows; parents = parent_of-weighed_from f 0 rows; names = name_of-weighed_from f 0 rows }

-- and the limits are kept where the rule keeps them
pub limits_weighed : (f : ℕ → ℕ → ℕ) (rows : Rows) → ((node : ℕ) → node < length rows → (1 ≤ f node (weight_of rows node)) × (f node (weight_of rows node) ≤ 1000))
    → IsWithinLimits rows → IsWithinLimits (with_weights f rows)
limits_weighed f rows weights limits =
    grind (arith, alike_weighed, length-weighed_from, limits_alike, weight_of-past, weight_of-with_weights)

flipped : (b : Bool) → ◌≡◌ {A = ℕ} (cond b 0 1) (cond (not b) 1 0)
flipped true = refl
flipped false = refl

-- the weights that change are those of the nodes whose weight is another afterwards
pub changes_counted : (f : ℕ → ℕ → ℕ) (node : ℕ) (rows : Rows)
    → changes_from f node rows ≡ count_below (length rows) (λ place. not (weight_of (weighed_from f node rows) place == weight_of rows place))
changes_counted f node [] = refl
changes_counted f node (row ∷ rows) =
    let rest = changes_counted f (suc node) rows in
    let here = flipped (f node row.weight == row.weight) in
    let front = count_front (length rows) (λ place. not (weight_of (weighed_from f node (row ∷ rows)) place == weight_of (row ∷ rows) place)) in
    omega arith

-- as many weights changed as the rule changes
pub weights_counted : (f : ℕ → ℕ → ℕ) (rows after : Rows) (count : ℕ) → after ≡ with_weights f rows → count ≡ changes_from f 0 rows
    → count ≡ count_below (length rows) (λ node. not (weight_of after node == weight_of rows node))
weights_counted f rows after count is counted = rw is (counted ∙ changes_counted f 0 rows)

-- Rows of a list, once their nodes got their weights

-- rows with new weights are those of a tree where the rows were
pub weighed_tree : (f : ℕ → ℕ → ℕ) (rows after : List Row) → rows_of after ≡ with_weights f (rows_of rows)
    → ((node : ℕ) → node < length (rows_of rows) → (1 ≤ f node (weight_of (rows_of rows) node)) × (f node (weight_of (rows_of rows) node) ≤ 1000))
    → AreTreeRows (rows_of rows) → AreTreeRows (rows_of after)
weighed_tree f rows after is weights (tree, limits) =
    rw is (tree_alike (rows_of rows) _ (alike_weighed f (rows_of rows)) tree, limits_weighed f (rows_of rows) weights limits)

-- and their nodes are as deep
pub weighed_depths : (f : ℕ → ℕ → ℕ) (rows after : List Row) (depths : List ℕ) → rows_of after ≡ with_weights f (rows_of rows)
    → AreDepths (rows_of rows) (length rows) depths → AreDepths (rows_of after) (length after) depths
weighed_depths f rows after depths is (long, each) = grind (arith, alike_weighed, depth_of_alike, map_length)
