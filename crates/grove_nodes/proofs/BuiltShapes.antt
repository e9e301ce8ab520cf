-- Rows that are built one after the other, and arrays that make none.
use Rattle.std.proofs.Common.{◌≡◌, ℕ, suc, ◌+◌, ◌<◌, ◌≤◌, ◌⊎◌, List, [], ◌∷◌, ◌++◌, length, map, take, get_or, Option}
use Rattle.std.proofs.Common.{Some, None, refl, ap, ap₂, sym, ◌∙◌, subst, arith, inl, inr}
use Rattle.std.specs.Prelude.{◌≢◌, Result, Ok, Err, IfErr}
use Rattle.std.proofs.lemmas.List.{take_more}
use Rattle.grove_tree.specs.BuiltRows.{row_of, rows_of}
use Rattle.grove_tree.specs.Trees.{Rows, NodeRow}
use Rattle.grove_tree.specs.Rules.{AreTreeRows}
use Rattle.grove_tree.specs.declared.row.Row.{Row}
use Rattle.grove_tree.specs.declared.fault.TreeFault.{TreeFault}
use Rattle.grove_tree.specs.declared.fault.TreeFault.TheVariants.{Memory}
use Rattle.grove_nodes.specs.Building.{told_parent, row_at, AreNamedByNumber}
use Rattle.grove_nodes.specs.Shapes.{HaveShape, told_parents}
use Rattle.grove_nodes.proofs.Naming.{none_alike}
use Rattle.grove_nodes.proofs.Shapes.{sizes}

map_push : {A B : Type 0} (f : A → B) (xs : List A) (x : A) → map f (xs ++ x ∷ []) ≡ map f xs ++ f x ∷ []
map_push f [] x = refl
map_push f (y ∷ xs) x = ap (λ ys. f y ∷ ys) (map_push f xs x)

told_push : (parents : List ℕ) (p : ℕ)
    → told_parents (parents ++ p ∷ []) ≡ told_parents parents ++ told_parent (length parents) p ∷ []
told_push [] p = refl
told_push (first ∷ parents) p = ap (λ (os : List (Option ℕ)). None ∷ os) (map_push Some parents p)

length_push : {A : Type 0} (xs : List A) (x : A) → length (xs ++ x ∷ []) ≡ suc (length xs)
length_push [] x = refl
length_push (y ∷ xs) x = ap suc (length_push xs x)

-- a row more
pub shape_push : (parents weights : List ℕ) (rows : Rows) (p w : ℕ) → HaveShape parents weights rows
    → HaveShape (parents ++ p ∷ []) (weights ++ w ∷ []) (rows ++ row_at (length rows) p w ∷ [])
shape_push parents weights rows p w is =
    let size : length parents ≡ length rows = (sizes parents weights rows is).0 in record {
      by_parents = map_push (λ (row : NodeRow). row.parent) rows (row_at (length rows) p w)
          ∙ (ap₂ (λ (os : List (Option ℕ)) (n : ℕ). os ++ told_parent n p ∷ []) is.by_parents (sym size)
          ∙ sym (told_push parents p));
      by_weights = map_push (λ (row : NodeRow). row.weight) rows (row_at (length rows) p w)
          ∙ ap (λ (ws : List ℕ). ws ++ w ∷ []) is.by_weights;
    }

pub names_push : (rows : Rows) (p w : ℕ) → AreNamedByNumber rows
    → AreNamedByNumber (rows ++ row_at (length rows) p w ∷ [])
names_push rows p w named = grind (arith, length_push, map_push)

-- one more row is made of the next parent and weight
module _ (parents weights : List ℕ) (place : ℕ) (rows : List Row) (row : Row) (after : List Row)
    (many : length (rows_of rows) ≡ place)
    (made : row_of row ≡ row_at place (get_or parents place 0) (get_or weights place 0))
    (pushed : after ≡ rows ++ row ∷ []) where
  grown : rows_of after
      ≡ rows_of rows ++ row_at (length (rows_of rows)) (get_or parents place 0) (get_or weights place 0) ∷ []
  grown = ap rows_of pushed ∙ (map_push row_of rows row ∙ (ap (λ (r : NodeRow). rows_of rows ++ r ∷ []) made
      ∙ ap (λ (n : ℕ). rows_of rows ++ row_at n (get_or parents place 0) (get_or weights place 0) ∷ []) (sym many)))

  pub next_shape : HaveShape (take place parents) (take place weights) (rows_of rows) → place < length parents
      → place < length weights → HaveShape (take (place + 1) parents) (take (place + 1) weights) (rows_of after)
  next_shape is lt lt2 =
      subst (λ (others : Rows). HaveShape (take (place + 1) parents) (take (place + 1) weights) others) (sym grown)
      (subst (λ (ps : List ℕ). HaveShape ps (take (place + 1) weights) (rows_of rows
      ++ row_at (length (rows_of rows)) (get_or parents place 0) (get_or weights place 0) ∷ []))
      (sym (take_more parents place 0 lt))
      (subst (λ (ws : List ℕ). HaveShape (take place parents ++ get_or parents place 0 ∷ []) ws (rows_of rows
      ++ row_at (length (rows_of rows)) (get_or parents place 0) (get_or weights place 0) ∷ []))
      (sym (take_more weights place 0 lt2))
      (shape_push (take place parents) (take place weights) (rows_of rows) (get_or parents place 0)
      (get_or weights place 0) is)))

  pub next_names : AreNamedByNumber (rows_of rows) → AreNamedByNumber (rows_of after)
  next_names named = subst AreNamedByNumber (sym grown)
      (names_push (rows_of rows) (get_or parents place 0) (get_or weights place 0) named)

  pub next_many : length (rows_of after) ≡ place + 1
  next_many = grind (arith, grown, length_push)

-- no tree has so many rows
pub too_many : (parents weights : List ℕ) → (4096 < length parents) ⊎ (4096 < length weights) → (rows : Rows)
    → HaveShape parents weights rows → ¬ AreTreeRows rows
too_many parents weights many rows is (tree, limits) =
    let (by_parents, by_weights) = sizes parents weights rows is in
    let few : length rows ≤ 4096 = limits.few in
    elim many [
      | inl more ↦ absurd (omega (arith, more, by_parents, few))
      | inr more ↦ absurd (omega (arith, more, by_weights, few))
    ]

-- no rows have more parents than weights, or fewer
pub uneven : (parents weights : List ℕ) → length parents ≢ length weights → (rows : Rows)
    → HaveShape parents weights rows → ¬ AreTreeRows rows
uneven parents weights differ rows is tree =
    let (by_parents, by_weights) = sizes parents weights rows is in differ (by_parents ∙ sym by_weights)

-- rows that are refused for their tree are refused for their shape
pub refused : {T : Type 0} (parents weights : List ℕ) (rows passed : Rows) (result : Result T TreeFault) → passed ≡ rows
    → HaveShape parents weights rows → AreNamedByNumber rows
    → IfErr result (λ fault. fault ≢ Memory → ¬ AreTreeRows passed)
    → IfErr result (λ fault. fault ≢ Memory → (other : Rows) → HaveShape parents weights other → ¬ AreTreeRows other)
refused parents weights rows passed (Ok tree) same is named none = tt
refused parents weights rows passed (Err fault) same is named none =
    λ some. none_alike parents weights rows is named (subst (λ (others : Rows). ¬ AreTreeRows others) same (none some))
