-- The sums of the bound, and what the tables say of one row.
use Rattle.std.proofs.Common.{◌≡◌, ℕ, ◌+◌, ◌*◌, ◌^◌, ◌<◌, ◌≤◌, Bool, true, false, not, ◌&&◌, ◌||◌, eqb, ltb, List}
use Rattle.std.proofs.Common.{length, take, get_or, Some, sym, ◌∙◌, ap, subst, inl, inr, arith, zero-mul}
use Rattle.std.proofs.Common.{mul-le-mul_left}
use Rattle.std.specs.Prelude.{map}
use Rattle.std.specs.List.{slice_get, sum_by}
use Rattle.std.proofs.lemmas.Option.{same_Some, slice_get_within, slice_get-get_or, get_or_from_slice_get}
use Rattle.std.proofs.lemmas.Bool.{cases_lt, cases_eq, cases_Bool, both_ways, false_from_ne_true, lt-ltb, le-ltb, eq-eqb, ne_eqb, not_from_true, not_from_false}
use Rattle.std.proofs.lemmas.List.Sums.{sum_by_more}
use Rattle.grove_base.specs.Numbers.{any_below}
use Rattle.grove_tree.specs.Trees.{Rows, parent_of, weight_of, IsTree}
use Rattle.grove_base.proofs.Counting.{any_from, passing_got, passing_rises, last_is, any_false}
use Rattle.grove_base.proofs.Lists.{get_map, get_map_inv, read_at}
use Rattle.grove_tree.proofs.Above.{above_le, parent_lt}
use Rattle.grove_tree.proofs.Tests.{is_at_true, is_at_from}
use Rattle.grove_access.specs.Lists.{AreNodes}
use Rattle.grove_access.specs.Slots.{slots_before}
use Rattle.grove_access.specs.Forced.{IsCommon, IsForcedByTree, is_forced, forced_nodes, names_at, first_access}
use Rattle.grove_access.specs.Forced.{last_end}
use Rattle.grove_access.proofs.ForcedByTree.{forced_step, forced_listed, listed_forced}
use Rattle.grove_proof.specs.declared.flow.FlowRow.{FlowRow}
use Rattle.grove_proof.specs.declared.tables.Visits.{Visits}
use Rattle.grove_proof.specs.Flows.{node_of, has_parent, is_parent_at, is_sign_ok, is_lock_balanced, is_release_balanced}
use Rattle.grove_proof.specs.declared.tables.Amount.TheVariants.{Above, Held}
use Rattle.grove_proof.specs.Faults.{IsFirstBad}
use Rattle.grove_proof.specs.Tables.{AreVisits, VisitsByNode, SumsByNode, sum_at, AreInTree, AreSums, AreBounded}
use Rattle.grove_proof.proofs.TablesByNode.{visited, read_same, last_none}
use Rattle.grove_proof.proofs.ForcedRows.{has_signs, parent_row}

-- what a row gives to the two halves of the bound
abbrev pub gain_of : List ℕ → List ℕ → FlowRow → ℕ
gain_of nodes lengths row = row.last * slots_before lengths (last_end nodes row.node)

abbrev pub loss_of : List ℕ → List ℕ → FlowRow → ℕ
loss_of nodes lengths row = row.first * slots_before lengths (first_access nodes row.node)

-- the sum of the terms of the first n rows, none of them great
pub record IsTotal (term : FlowRow → ℕ) (flow : List FlowRow) (n total : ℕ) : Type 0 where
  pub sum : total ≡ sum_by term (take n flow)
  pub few : total ≤ n * 2 ^ 80

-- one term more stays small enough
pub total_step : (term : FlowRow → ℕ) (flow : List FlowRow) (n total : ℕ) (row : FlowRow) → IsTotal term flow n total → slice_get flow n ≡ Some row → term row ≤ 2 ^ 80
    → IsTotal term flow (n + 1) (total + term row)
total_step term flow n total row so_far there small =
    let few : total ≤ n * 2 ^ 80 = so_far.few in
    record {
      sum = ap (λ (k : ℕ). k + term row) so_far.sum
          ∙ (ap (λ (r : FlowRow). sum_by term (take n flow) + term r) (sym (get_or_from_slice_get flow n row row there)) ∙ sym (sum_by_more term flow n row (slice_get_within flow n row there)));
      few = omega arith;
    }

-- a product of an amount and a number of slots
pub small_term : (a b : ℕ) → a < 2 ^ 64 → b ≤ 64000 → a * b ≤ 2 ^ 80
small_term a b h k = grind (arith, mul-le-mul_left)

-- Nodes of the rows

-- the node of a row is a forced node of the tree
pub row_node : (rows : Rows) (nodes : List ℕ) (flow : List FlowRow) (i : ℕ) (row : FlowRow) → map node_of flow ≡ forced_nodes rows nodes → slice_get flow i ≡ Some row
    → slice_get (forced_nodes rows nodes) i ≡ Some row.node
row_node rows nodes flow i row listed there = ap (λ (xs : List ℕ). slice_get xs i) (sym listed) ∙ get_map node_of flow i row there

-- each row's node is a node of the tree
pub rows_in_tree : (rows : Rows) (nodes : List ℕ) (flow : List FlowRow) → map node_of flow ≡ forced_nodes rows nodes → AreInTree rows flow
rows_in_tree rows nodes flow listed i row there = (passing_got (length rows) (is_forced rows nodes) i row.node (row_node rows nodes flow i row listed there)).0

-- a node of the rows stands at the row's place alone, after the smaller ones
node_after : (rows : Rows) (nodes : List ℕ) (flow : List FlowRow) (i j v : ℕ) (row : FlowRow) → map node_of flow ≡ forced_nodes rows nodes → slice_get flow i ≡ Some row
    → slice_get (forced_nodes rows nodes) j ≡ Some v → v < row.node → j < i
node_after rows nodes flow i j v row listed there at less =
    grind (arith, cases_eq, cases_lt, passing_rises, row_node, same_Some)

-- a common node among the rows is the first
top_is_first : (rows : Rows) (nodes : List ℕ) (flow : List FlowRow) (i : ℕ) (row : FlowRow) → IsTree rows → AreNodes rows nodes → map node_of flow ≡ forced_nodes rows nodes
    → slice_get flow i ≡ Some row → IsCommon rows nodes row.node → 0 < i → ⊥
top_is_first rows nodes flow i row tree fits listed there common later =
    let here : slice_get (forced_nodes rows nodes) i ≡ Some row.node = row_node rows nodes flow i row listed there in
    let within : i < length (forced_nodes rows nodes) = slice_get_within (forced_nodes rows nodes) i row.node here in
    let first : slice_get (forced_nodes rows nodes) 0 ≡ Some (get_or (forced_nodes rows nodes) 0 0) = slice_get-get_or (forced_nodes rows nodes) 0 0 (omega arith) in
    let less : get_or (forced_nodes rows nodes) 0 0 < row.node = passing_rises (length rows) (is_forced rows nodes) 0 i (get_or (forced_nodes rows nodes) 0 0) row.node later first here in
    let le : row.node ≤ get_or (forced_nodes rows nodes) 0 0 =
    above_le rows tree row.node (get_or (forced_nodes rows nodes) 0 0) ((listed_forced rows nodes 0 (get_or (forced_nodes rows nodes) 0 0) tree fits first).below row.node common) in
    omega arith

-- the first row's node has no parent among the rows
no_parent_first : (rows : Rows) (nodes : List ℕ) (flow : List FlowRow) (i : ℕ) (row : FlowRow) → IsTree rows → AreNodes rows nodes → map node_of flow ≡ forced_nodes rows nodes
    → slice_get flow i ≡ Some row → i ≡ 0 → has_parent rows flow row ≡ true → ⊥
no_parent_first rows nodes flow i row tree fits listed there e is = elim (parent_row rows flow row) [
  | inl over ↦
      let less : over.1.node < row.node = parent_lt rows tree row.node over.1.node (is_at_true over.1.node (parent_of rows row.node) over.3) in
      let before : over.0 < i = node_after rows nodes flow i over.0 over.1.node row listed there (row_node rows nodes flow over.0 over.1 listed over.2) less in
      omega arith
  | inr none ↦ both_ways (has_parent rows flow row) none is
]

-- the first row's node is the top: all others have their parents among the rows
pub first_is_top : (rows : Rows) (nodes : List ℕ) (flow : List FlowRow) (i : ℕ) (row : FlowRow) → IsTree rows → AreNodes rows nodes → map node_of flow ≡ forced_nodes rows nodes
    → slice_get flow i ≡ Some row → has_parent rows flow row ≡ ltb 0 i
first_is_top rows nodes flow i row tree fits listed there =
    let here : slice_get (forced_nodes rows nodes) i ≡ Some row.node = row_node rows nodes flow i row listed there in
    let forced : IsForcedByTree rows nodes row.node = listed_forced rows nodes i row.node tree fits here in
    elim (cases_lt 0 i) [
      | inl later ↦
          elim (forced_step rows nodes row.node tree fits forced) [
            | inl common ↦ absurd (top_is_first rows nodes flow i row tree fits listed there common later)
            | inr under ↦
                let at : (k : ℕ) × (slice_get (forced_nodes rows nodes) k ≡ Some under.0) = forced_listed rows nodes under.0 tree fits under.2 in
                let from : (over : FlowRow) × (slice_get flow at.0 ≡ Some over) × (node_of over ≡ under.0) = get_map_inv node_of flow at.0 under.0 (ap (λ (xs : List ℕ). slice_get xs at.0) listed ∙ at.1) in
                any_from (length flow) (λ k. is_parent_at rows row (slice_get flow k)) at.0 (slice_get_within flow at.0 from.0 from.1)
                (ap (is_parent_at rows row) from.1 ∙ is_at_from from.0.node (parent_of rows row.node) (under.1 ∙ ap (λ (k : ℕ). Some k) (sym from.2)))
                ∙ sym (lt-ltb 0 i later)
          ]
      | inr first ↦ grind (arith, false_from_ne_true, le-ltb, no_parent_first)
    ]

-- What the visits say

-- the end of the last visit is small
pub end_few : (nodes : List ℕ) (n v : ℕ) (visits : Visits) → AreVisits nodes n v visits → visits.end ≤ n
end_few nodes n v visits are = elim (cases_Bool (any_below n (names_at nodes v))) [
  | inl some ↦ grind (arith, last_is)
  | inr none ↦ let end : visits.end ≡ 0 = are.end ∙ last_none n (names_at nodes v) (any_false n (names_at nodes v) none) in omega arith
]

-- a first access is priced as its visits say, where the signs are right
pub first_priced : (rows : Rows) (nodes lengths : List ℕ) (flow : List FlowRow) (row : FlowRow) (visits : Visits) → is_sign_ok rows nodes flow row ≡ true → AreVisits nodes (length nodes) row.node visits
    → row.first * slots_before lengths visits.first ≡ loss_of nodes lengths row
first_priced rows nodes lengths flow row visits sign are = grind (arith, cases_Bool, has_signs, zero-mul)

-- the sums' steps
pub gain_step : (nodes lengths : List ℕ) (flow : List FlowRow) (n total slots : ℕ) (row : FlowRow) (visits : Visits) → IsTotal (gain_of nodes lengths) flow n total → slice_get flow n ≡ Some row
    → AreVisits nodes (length nodes) row.node visits → slots ≡ slots_before lengths visits.end → slots ≤ 64000 → row.last < 2 ^ 64
    → IsTotal (gain_of nodes lengths) flow (n + 1) (total + row.last * slots)
gain_step nodes lengths flow n total slots row visits so_far there are is few small =
    grind (arith, small_term, total_step)

-- and of the other half
pub loss_step : (rows : Rows) (nodes lengths : List ℕ) (flow : List FlowRow) (n total slots : ℕ) (row : FlowRow) (visits : Visits) → IsTotal (loss_of nodes lengths) flow n total → slice_get flow n ≡ Some row
    → is_sign_ok rows nodes flow row ≡ true → AreVisits nodes (length nodes) row.node visits → slots ≡ slots_before lengths visits.first → slots ≤ 64000 → row.first < 2 ^ 64
    → IsTotal (loss_of nodes lengths) flow (n + 1) (total + row.first * slots)
loss_step rows nodes lengths flow n total slots row visits so_far there sign are is few small =
    let same : row.first * slots ≡ loss_of nodes lengths row = ap (λ (k : ℕ). row.first * k) is ∙ first_priced rows nodes lengths flow row visits sign are in
    subst (λ (k : ℕ). IsTotal (loss_of nodes lengths) flow (n + 1) (total + k)) (sym same)
    (total_step (loss_of nodes lengths) flow n total row so_far there
    (subst (λ (k : ℕ). k ≤ 2 ^ 80) same (small_term row.first slots small few)))

-- What the tables say of a row

-- a node of the rows stands in the tables
pub record IsInTables (rows : Rows) (visits : List Visits) (above held : List ℕ) (v : ℕ) : Type 0 where
  pub in_tree : v < length rows
  pub in_visits : v < length visits
  pub in_above : v < length above
  pub in_held : v < length held

-- the node of a row stands in the tables
pub node_in : (rows : Rows) (nodes : List ℕ) (flow : List FlowRow) (visits : List Visits) (above held : List ℕ) (i : ℕ) (row : FlowRow)
    → AreSums rows nodes flow visits above held → slice_get flow i ≡ Some row → IsInTables rows visits above held row.node
node_in rows nodes flow visits above held i row right there = grind (arith, rows_in_tree, slice_get_within)

-- so does the node of the row that is read at a place
pub row_in : (rows : Rows) (nodes : List ℕ) (flow : List FlowRow) (visits : List Visits) (above held : List ℕ) (place : ℕ) (d : FlowRow)
    → AreSums rows nodes flow visits above held → place < length flow → IsInTables rows visits above held (get_or flow place d).node
row_in rows nodes flow visits above held place d right lt = node_in rows nodes flow visits above held place (get_or flow place d) right (slice_get-get_or flow place d lt)

-- a sum that is read for a node in the tables is small
pub sum_read : (table : List ℕ) (v number sum : ℕ) → AreBounded table → v < length table → number ≡ v → sum ≡ get_or table number sum → sum ≤ 2 ^ 96
sum_read table v number sum bounded lt same read = bounded number sum (read_at table number sum (omega arith) read)

-- the visits that were read
pub visits_read : (nodes : List ℕ) (rows : Rows) (table : List Visits) (v number : ℕ) (visits : Visits) → VisitsByNode rows nodes (length nodes) table → v < length rows → number ≡ v
    → visits ≡ get_or table number visits → AreVisits nodes (length nodes) v visits
visits_read nodes rows table v number visits right within e read =
    let found : (w : Visits) × (slice_get table v ≡ Some w) × AreVisits nodes (length nodes) v w = right v within in
    subst (λ (w : Visits). AreVisits nodes (length nodes) v w) (read_same table number v visits found.0 found.1 read e) found.2

-- the tests as the checker makes them

-- the lock balance as it is made is the test of the row
pub lock_made : (rows : Rows) (flow : List FlowRow) (table : List ℕ) (made row : FlowRow) (number children weight : ℕ) → SumsByNode rows Above flow table → made ≡ row → row.node < length rows
    → number ≡ made.node → children ≡ get_or table number children → weight ≡ weight_of rows made.node
    → eqb (made.above + weight) (children + made.held + made.first + made.own) ≡ is_lock_balanced rows flow row
lock_made rows flow table made row number children weight right e within at read weighs =
    let sum : sum_at rows Above row.node flow ≡ children = read_same table number row.node children (sum_at rows Above row.node flow) (right row.node within) read (at ∙ ap node_of e) in
    grind (arith)

-- and so is the release balance
pub release_made : (rows : Rows) (flow : List FlowRow) (table : List ℕ) (made row : FlowRow) (number children weight : ℕ) → SumsByNode rows Held flow table → made ≡ row → row.node < length rows
    → number ≡ made.node → children ≡ get_or table number children → weight ≡ weight_of rows made.node
    → eqb (children + made.last + made.own) weight ≡ is_release_balanced rows flow row
release_made rows flow table made row number children weight right e within at read weighs =
    let sum : sum_at rows Held row.node flow ≡ children = read_same table number row.node children (sum_at rows Held row.node flow) (right row.node within) read (at ∙ ap node_of e) in
    grind (arith)

-- whether a place isn't the first
not_first : (i : ℕ) → not (eqb i 0) ≡ ltb 0 i
not_first i = grind (arith, cases_eq, eq-eqb, le-ltb, lt-ltb, ne_eqb, not_from_false, not_from_true)

-- and the test of the signs
pub sign_made : (rows : Rows) (nodes : List ℕ) (flow : List FlowRow) (made row : FlowRow) (i : ℕ) (visits : Visits) → IsTree rows → AreNodes rows nodes → map node_of flow ≡ forced_nodes rows nodes
    → slice_get flow i ≡ Some row → made ≡ row → AreVisits nodes (length nodes) row.node visits
    → ((not (eqb i 0) || (eqb made.above 0 && eqb made.held 0)) && (ltb 0 visits.end || (eqb made.first 0 && eqb made.last 0))) ≡ is_sign_ok rows nodes flow row
sign_made rows nodes flow made row i visits tree fits listed there e are =
    grind (arith, first_is_top, not_first, visited)

-- a row that fails a test, after rows that pass it
pub bad_here : (test : FlowRow → Bool) (flow : List FlowRow) (i : ℕ) (row : FlowRow) → slice_get flow i ≡ Some row → test row ≡ false
    → ((j : ℕ) (other : FlowRow) → j < i → slice_get flow j ≡ Some other → test other ≡ true) → IsFirstBad test flow i
bad_here test flow i row there fails before = record { row = row; there = there; fails = fails; before = before }
