-- The rows of the forced nodes: their parents among the rows, and the signs of their amounts.
use Rattle.std.proofs.Common.{◌≡◌, ℕ, suc, ◌*◌, ◌≤◌, Bool, true, false, ◌&&◌, ◌||◌, eqb, ◌⊎◌, List, length, Option}
use Rattle.std.proofs.Common.{Some, None, sym, ◌∙◌, inl, inr, arith, zero-mul}
use Rattle.std.specs.Prelude.{map}
use Rattle.std.specs.List.{slice_get}
use Rattle.std.proofs.lemmas.Option.{same_Some}
use Rattle.std.proofs.lemmas.Bool.{cases_order, cases_Bool, both_ways, and_parts, or_cases, eqb-true, false_from_ne_true, cond-true, cond-false}
use Rattle.grove_tree.specs.Trees.{Rows, IsTree}
use Rattle.grove_base.proofs.Counting.{any_true, least_is, last_is}
use Rattle.grove_base.proofs.Lists.{get_map}
use Rattle.grove_tree.proofs.Tests.{is_at_true}
use Rattle.grove_access.specs.Lists.{AreNodes}
use Rattle.grove_access.specs.Forced.{IsForcedByTree, names_at, is_accessed, first_access, last_end}
use Rattle.grove_plan.specs.Plans.{held}
use Rattle.grove_proof.specs.declared.flow.FlowRow.{FlowRow}
use Rattle.grove_proof.specs.Forced.{IsForcedList}
use Rattle.grove_proof.specs.Flows.{node_of, is_child, is_parent_at, has_parent, is_sign_ok}
use Rattle.grove_proof.proofs.Sums.{sums_one}
use Rattle.grove_proof.proofs.ForcedList.{forced_is_by_tree}
use Rattle.grove_proof.proofs.PricedRows.{parent_value}

-- The rows of the forced nodes

-- the nodes of the rows of a forced list are forced by the tree, and stand once
pub record AreForcedRows (rows : Rows) (nodes : List ℕ) (flow : List FlowRow) : Type 0 where
  pub forced : (i : ℕ) (row : FlowRow) → slice_get flow i ≡ Some row → IsForcedByTree rows nodes row.node
  pub once : (i j : ℕ) (row other : FlowRow) → slice_get flow i ≡ Some row → slice_get flow j ≡ Some other → row.node ≡ other.node → i ≡ j

-- the rows of a forced list are such rows
pub forced_rows : (rows : Rows) (nodes : List ℕ) (flow : List FlowRow) → IsTree rows → AreNodes rows nodes → IsForcedList rows nodes (map node_of flow) → AreForcedRows rows nodes flow
forced_rows rows nodes flow tree fits list = record {
  forced = λ i row is. (forced_is_by_tree rows nodes row.node tree fits).0 ((list.forced row.node).0 (i, get_map node_of flow i row is));
  once = λ i j row other is there e.
      let here : slice_get (map node_of flow) i ≡ Some row.node = get_map node_of flow i row is in
      let also : slice_get (map node_of flow) j ≡ Some other.node = get_map node_of flow j other there in
      elim (cases_order i j) [
        | inl same ↦ same
        | inr ne ↦ grind (arith)
      ];
}

parent_here : (rows : Rows) (flow : List FlowRow) (row : FlowRow) (k : ℕ) (o : Option FlowRow) → slice_get flow k ≡ o → is_parent_at rows row o ≡ true
    → (k : ℕ) × (over : FlowRow) × (slice_get flow k ≡ Some over) × (is_child rows row over ≡ true)
parent_here rows flow row k (Some over) e h = (k, over, e, h)
parent_here rows flow row k None e h = absurd (cc)

-- a row's parent among the rows, or none
pub parent_row : (rows : Rows) (flow : List FlowRow) (row : FlowRow)
    → ((k : ℕ) × (over : FlowRow) × (slice_get flow k ≡ Some over) × (is_child rows row over ≡ true)) ⊎ (has_parent rows flow row ≡ false)
parent_row rows flow row = grind (arith, any_true, cases_Bool, parent_here)

-- the value of a parent that has a row
pub at_parent : (rows : Rows) (nodes : List ℕ) (flow : List FlowRow) (value : ℕ → ℕ) → AreForcedRows rows nodes flow
    → (child over : FlowRow) (k : ℕ) → slice_get flow k ≡ Some over → is_child rows child over ≡ true → parent_value rows flow value child ≡ value over.node
at_parent rows nodes flow value are child over k there is =
    grind (arith, cond-false, cond-true, false_from_ne_true, is_at_true, same_Some, sums_one)

-- The signs of a row

-- what the signs of a row say where a constraint is missing
pub record HasSigns (rows : Rows) (nodes : List ℕ) (flow : List FlowRow) (row : FlowRow) : Type 0 where
  pub top : has_parent rows flow row ≡ false → (row.above ≡ 0) × (row.held ≡ 0)
  pub unaccessed : is_accessed nodes row.node ≡ false → (row.first ≡ 0) × (row.last ≡ 0)

both_zero : (a b : ℕ) (some : Bool) → (some || (eqb a 0 && eqb b 0)) ≡ true → some ≡ false → (a ≡ 0) × (b ≡ 0)
both_zero a b some h none = grind (arith, and_parts, both_ways, eqb-true, or_cases)

-- a row that passes the test has them
pub has_signs : (rows : Rows) (nodes : List ℕ) (flow : List FlowRow) (row : FlowRow) → is_sign_ok rows nodes flow row ≡ true → HasSigns rows nodes flow row
has_signs rows nodes flow row h = grind (arith, and_parts, both_zero)

-- the first access of an accessed node, and the end of its last
pub first_is : (nodes : List ℕ) (v : ℕ) → is_accessed nodes v ≡ true → slice_get nodes (first_access nodes v) ≡ Some v
first_is nodes v h = is_at_true v (slice_get nodes (first_access nodes v)) (least_is (length nodes) (names_at nodes v) h).1

-- and the last one, before its end
pub last_is_end : (nodes : List ℕ) (v : ℕ) → is_accessed nodes v ≡ true → (g : ℕ) × (last_end nodes v ≡ suc g) × (slice_get nodes g ≡ Some v)
last_is_end nodes v h = grind (arith, is_at_true, last_is)

-- an amount of 0 prices nothing
pub free : (a x y : ℕ) → a ≡ 0 → a * x ≤ a * y
free a x y e = rw e (omega (arith, zero-mul x, zero-mul y))

-- and it prices all the same
pub free_same : (a x y : ℕ) → a ≡ 0 → a * x ≡ a * y
free_same a x y e = rw e (zero-mul x ∙ sym (zero-mul y))
