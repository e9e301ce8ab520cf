-- The rows of a span: what they say of the tree and the list, and the rows of the flow beside them.
use Rattle.std.proofs.Common.{◌≡◌, ℕ, zero, suc, ◌<◌, ◌≤◌, Bool, true, false, cond, List, [], ◌∷◌, length, Option, Some, None, refl, sym, ◌∙◌, ap, subst, inl, inr, arith, eqb, eqb-true, eq-eqb}
use Rattle.std.specs.List.{slice_get}
use Rattle.std.specs.Option.{option_map, option_and_then}
use Rattle.std.proofs.lemmas.Option.{none-some, same_Some, cond_some, option_and_then_some, slice_get_within}
use Rattle.std.proofs.lemmas.Bool.{cases_lt, both_ways}
use Rattle.grove_tree.specs.Trees.{Rows, parent_of}
use Rattle.grove_base.proofs.Counting.{any_from, least_is, last_is}
use Rattle.grove_base.proofs.Lists.{get_map, get_map_inv}
use Rattle.grove_tree.proofs.Tests.{is_at_from}
use Rattle.grove_access.specs.Slots.{slots_before}
use Rattle.grove_access.specs.Forced.{IsForcedByTree, forced_nodes, names_at, is_accessed, first_access, last_end}
use Rattle.grove_access.proofs.ForcedByTree.{forced_listed, listed_forced}
use Rattle.grove_span.specs.declared.row.SpanRow.{SpanRow}
use Rattle.grove_span.specs.SpanRows.{node_of_row, find_place, parent_place, from_of, until_of}
use Rattle.grove_build.specs.Networks.{IsSpan}
use Rattle.grove_base.specs.Numbers.{last_below}

-- a number that passes lies before the last place
last_above : (n : ℕ) (test : ℕ → Bool) (k : ℕ) → k < n → test k ≡ true → suc k ≤ last_below n test
last_above n test k lt h =
    let found : (g : ℕ) × (last_below n test ≡ suc g) × (g < n) × (test g ≡ true) × ((j : ℕ) → g < j → j < n → test j ≡ false) = last_is n test (any_from n test k lt h) in
    grind (arith, both_ways, cases_lt)

-- finding a place

place_step : (b : Bool) (x v j : ℕ) (xs : List ℕ) (o : Option ℕ) → (b ≡ true → x ≡ v)
    → ((i : ℕ) → o ≡ Some i → slice_get xs i ≡ Some v)
    → cond b (Some 0) (option_map suc o) ≡ Some j → slice_get (x ∷ xs) j ≡ Some v
place_step true x v zero xs o same there e = ap (λ (n : ℕ). Some n) (same refl)
place_step true x v (suc j) xs o same there e = absurd (omega (arith, same_Some 0 (suc j) e))
place_step false x v j xs None same there e = absurd (none-some j e)
place_step false x v zero xs (Some i) same there e = absurd (omega (arith, same_Some (suc i) 0 e))
place_step false x v (suc j) xs (Some i) same there e = grind (arith, same_Some)

pub place_found : (v : ℕ) (xs : List ℕ) (j : ℕ) → find_place v xs ≡ Some j → slice_get xs j ≡ Some v
place_found v [] j e = absurd (none-some j e)
place_found v (x ∷ xs) j e = place_step (eqb x v) x v j xs (find_place v xs) (eqb-true x v) (place_found v xs) e

place_here : (b : Bool) (o : Option ℕ) → ((b ≡ false) → (j : ℕ) × (o ≡ Some j)) → (j : ℕ)
    × (cond b (Some 0) (option_map suc o) ≡ Some j)
place_here true o h = (0, refl)
place_here false o h = let r = h refl in (suc r.0, ap (λ x. option_map suc x) r.1)

pub place_there : (v : ℕ) (xs : List ℕ) (i : ℕ) → slice_get xs i ≡ Some v → (j : ℕ) × (find_place v xs ≡ Some j)
place_there v [] i h = absurd (none-some v h)
place_there v (x ∷ xs) zero h = grind (arith, both_ways, eq-eqb, place_here, same_Some)
place_there v (x ∷ xs) (suc i) h = place_here (eqb x v) (find_place v xs) (λ e. place_there v xs i h)

-- a node's own accesses

pub first_is_least : (nodes : List ℕ) (v a : ℕ) → slice_get nodes a ≡ Some v → (is_accessed nodes v ≡ true)
    × (first_access nodes v ≤ a) × (suc a ≤ last_end nodes v)
first_is_least nodes v a h =
    let hit : names_at nodes v a ≡ true = is_at_from v (slice_get nodes a) h in
    let lt : a < length nodes = slice_get_within nodes a v h in
    let some : is_accessed nodes v ≡ true = any_from (length nodes) (names_at nodes v) a lt hit in
    let l = least_is (length nodes) (names_at nodes v) some in (
      some,
      elim (cases_lt a (first_access nodes v)) [
        | inl less ↦ absurd (both_ways (names_at nodes v a) (l.2 a less) hit)
        | inr ge ↦ ge
      ],
      last_above (length nodes) (names_at nodes v) a lt hit,
    )

pub first_known : (nodes lengths : List ℕ) (v x : ℕ) → from_of nodes lengths v ≡ Some x → (is_accessed nodes v ≡ true)
    × (slots_before lengths (first_access nodes v) ≡ x) × (first_access nodes v < length nodes)
first_known nodes lengths v x e = grind (arith, cond_some, least_is)

pub last_known : (nodes lengths : List ℕ) (v x : ℕ) → until_of nodes lengths v ≡ Some x → (is_accessed nodes v ≡ true)
    × (slots_before lengths (last_end nodes v) ≡ x) × (last_end nodes v ≤ length nodes)
last_known nodes lengths v x e = grind (arith, cond_some, last_is)

module _ (tree : Rows) (nodes lengths : List ℕ) (rows : List SpanRow) (is_span : IsSpan tree nodes lengths rows) where
  -- each spanned node has a row
  pub row_of_node : (v : ℕ) → IsForcedByTree tree nodes v → (k : ℕ) × (row : SpanRow) × (slice_get rows k ≡ Some row)
      × (row.node ≡ v)
  row_of_node v s =
      let l = forced_listed tree nodes v is_span.is_tree is_span.are_nodes s in
      grind (arith, get_map_inv)

  row_of_place : (j p : ℕ) → slice_get (forced_nodes tree nodes) j ≡ Some p → (row : SpanRow)
      × (slice_get rows j ≡ Some row) × (row.node ≡ p)
  row_of_place j p h = grind (arith, get_map_inv)

  -- and each row's node is spanned
  pub row_spanned : (k : ℕ) (row : SpanRow) → slice_get rows k ≡ Some row → IsForcedByTree tree nodes row.node
  row_spanned k row h =
      let P : List ℕ → Type 0 = λ xs. slice_get xs k ≡ Some row.node in
      listed_forced tree nodes k row.node is_span.is_tree is_span.are_nodes
      (subst P is_span.named (get_map node_of_row rows k row h))

  -- the row of a node's parent
  pub parent_found : (k p : ℕ) (row : SpanRow) → slice_get rows k ≡ Some row → parent_of tree row.node ≡ Some p
      → IsForcedByTree tree nodes p
      → (j : ℕ) × (other : SpanRow) × (row.parent ≡ Some j) × (slice_get rows j ≡ Some other) × (other.node ≡ p)
  parent_found k p row h up s =
      let l = forced_listed tree nodes p is_span.is_tree is_span.are_nodes s in
      let t = place_there p (forced_nodes tree nodes) l.0 l.1 in
      let e : parent_place tree (forced_nodes tree nodes) row.node ≡ find_place p (forced_nodes tree nodes) =
      ap (λ o. option_and_then (λ q. find_place q (forced_nodes tree nodes)) o) up in
      let r = row_of_place t.0 p (place_found p (forced_nodes tree nodes) t.0 t.1) in
      (t.0, r.0, is_span.parents k row h ∙ (e ∙ t.1), r.1, r.2)

  pub parent_known : (k j : ℕ) (row : SpanRow) → slice_get rows k ≡ Some row → row.parent ≡ Some j
      → (other : SpanRow) × (slice_get rows j ≡ Some other) × (parent_of tree row.node ≡ Some other.node)
  parent_known k j row h e =
      let Found : Type 0 =
      (other : SpanRow) × (slice_get rows j ≡ Some other) × (parent_of tree row.node ≡ Some other.node) in
      option_and_then_some {P = Found} (λ q. find_place q (forced_nodes tree nodes)) (parent_of tree row.node) j
      (sym (is_span.parents k row h) ∙ e)
      (λ p up found.
      let r = row_of_place j p (place_found p (forced_nodes tree nodes) j found) in
      (r.0, r.1, up ∙ ap (λ (n : ℕ). Some n) (sym r.2)))
