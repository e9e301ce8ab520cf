-- Rows whose nodes get the weights that a rule gives.
use Rattle.std.proofs.Common.{◌≡◌, ℕ, zero, suc, add-zero, ◌+◌, ◌≤◌, ◌==◌, Bool, true, false, cond, List, [], ◌∷◌, ◌++◌}
use Rattle.std.proofs.Common.{length, refl, sym, ◌∙◌, ap, subst, arith, length-append}
use Rattle.grove_tree.specs.Trees.{Rows, parent_of}
use Rattle.grove_tree.specs.declared.row.Row.{Row}
use Rattle.grove_tree.specs.BuiltRows.{row_of, rows_of}
use Rattle.grove_tree.specs.Weights.{weighed_from}
use Rattle.grove_tree.specs.WeighedRows.{changes_from, AreTaken}
use Rattle.grove_base.proofs.Lists.{get_append_left, get_append_at, map_length}
use Rattle.std.proofs.lemmas.List.{map-append}

-- Rows

-- no row is lost
pub length-weighed_from : (f : ℕ → ℕ → ℕ) (node : ℕ) (rows : Rows) → length (weighed_from f node rows) ≡ length rows
length-weighed_from f node [] = refl
length-weighed_from f node (row ∷ rows) = ap suc (length-weighed_from f (suc node) rows)

next_place : (node n : ℕ) → suc node + n ≡ node + suc n
next_place node n = omega arith

-- joined rows get their weights part by part
pub weighed_from-append : (f : ℕ → ℕ → ℕ) (node : ℕ) (xs ys : Rows) → weighed_from f node (xs ++ ys) ≡ weighed_from f node xs ++ weighed_from f (node + length xs) ys
weighed_from-append f node [] ys = rw add-zero refl
weighed_from-append f node (row ∷ xs) ys = grind (arith, next_place, weighed_from-append f (suc node) xs ys)

-- and their changes add up
pub changes_from-append : (f : ℕ → ℕ → ℕ) (node : ℕ) (xs ys : Rows) → changes_from f node (xs ++ ys) ≡ changes_from f node xs + changes_from f (node + length xs) ys
changes_from-append f node [] ys = rw add-zero (omega arith)
changes_from-append f node (row ∷ xs) ys = grind (arith, next_place, changes_from-append f (suc node) xs ys)

-- the parents stay
pub parent_of-weighed_from : (f : ℕ → ℕ → ℕ) (node : ℕ) (rows : Rows) (place : ℕ) → parent_of (weighed_from f node rows) place ≡ parent_of rows place
parent_of-weighed_from f node [] place = refl
parent_of-weighed_from f node (row ∷ rows) zero = refl
parent_of-weighed_from f node (row ∷ rows) (suc place) = parent_of-weighed_from f (suc node) rows place

-- What the rule takes

taken_front : (takes : ℕ → ℕ → Type 0) (node : ℕ) (xs ys : Rows) → AreTaken takes node (xs ++ ys) → AreTaken takes node xs
taken_front takes node xs ys all place lt = grind (arith, get_append_left, length-append)

taken_back : (takes : ℕ → ℕ → Type 0) (node : ℕ) (xs ys : Rows) → AreTaken takes node (xs ++ ys) → AreTaken takes (node + length xs) ys
taken_back takes node xs ys all place lt = grind (arith, get_append_at, length-append)

-- Halves

rows_halves : (rows xs ys : List Row) → rows ≡ xs ++ ys → rows_of rows ≡ rows_of xs ++ rows_of ys
rows_halves rows xs ys e = ap rows_of e ∙ map-append row_of xs ys

-- the rule takes the nodes of both halves
pub halves_taken : (takes : ℕ → ℕ → Type 0) (node half : ℕ) (rows xs ys : List Row) → rows ≡ xs ++ ys → length xs ≡ half → AreTaken takes node (rows_of rows)
    → AreTaken takes node (rows_of xs) × AreTaken takes (node + half) (rows_of ys)
halves_taken takes node half rows xs ys e long all =
    let both = subst (λ (k : Rows). AreTaken takes node k) (rows_halves rows xs ys e) all in (
      taken_front takes node (rows_of xs) (rows_of ys) both,
      subst (λ (n : ℕ). AreTaken takes (node + n) (rows_of ys)) (map_length row_of xs ∙ long) (taken_back takes node (rows_of xs) (rows_of ys) both),
    )

-- the two halves with their weights are all rows with theirs
pub halves_weighed : (f : ℕ → ℕ → ℕ) (node half : ℕ) (rows xs ys vs ws : List Row) → rows ≡ xs ++ ys → length xs ≡ half → rows_of vs ≡ weighed_from f node (rows_of xs)
    → rows_of ws ≡ weighed_from f (node + half) (rows_of ys) → rows_of (vs ++ ws) ≡ weighed_from f node (rows_of rows)
halves_weighed f node half rows xs ys vs ws e long first second =
    grind (arith, map-append, map_length, rows_halves, weighed_from-append)

-- and the changes of both are all changes
pub halves_counted : (f : ℕ → ℕ → ℕ) (node half : ℕ) (rows xs ys : List Row) (m n : ℕ) → rows ≡ xs ++ ys → length xs ≡ half → m ≡ changes_from f node (rows_of xs)
    → n ≡ changes_from f (node + half) (rows_of ys) → m + n ≡ changes_from f node (rows_of rows)
halves_counted f node half rows xs ys m n e long first second =
    let back : n ≡ changes_from f (node + length (rows_of xs)) (rows_of ys) =
    second ∙ ap (λ (k : ℕ). changes_from f (node + k) (rows_of ys)) (sym (map_length row_of xs ∙ long)) in
    rw (first, back) (sym (changes_from-append f node (rows_of xs) (rows_of ys)) ∙ ap (changes_from f node) (sym (rows_halves rows xs ys e)))

-- no more weights of rows change than there are rows
pub changes_from-le : (f : ℕ → ℕ → ℕ) (node : ℕ) (rows : Rows) → changes_from f node rows ≤ length rows
changes_from-le f node [] = omega arith
changes_from-le f node (row ∷ rows) = let rest = changes_from-le f (suc node) rows in change_le (f node row.weight == row.weight) (changes_from f (suc node) rows) (length rows) rest
  where
    change_le : (b : Bool) (m n : ℕ) → m ≤ n → cond b 0 1 + m ≤ suc n
    change_le true m n le = omega arith
    change_le false m n le = omega arith

-- and no more weights of nodes than there are nodes
pub changes_within : (f : ℕ → ℕ → ℕ) (node : ℕ) (rows : List Row) → changes_from f node (rows_of rows) ≤ length rows
changes_within f node rows = rw (← map_length row_of rows) (changes_from-le f node (rows_of rows))
