-- Numbers for the locks and unlocks of a list's nodes, as the planner finds them.
use Rattle.std.proofs.Common.{◌≡◌, ℕ, suc, ◌<◌, ◌≤◌, true, List, length, Some}
use Rattle.std.specs.List.{slice_get}
use Rattle.grove_tree.specs.Trees.{Rows, parent_of}
use Rattle.grove_access.specs.Forced.{IsForcedByTree, is_accessed, first_access, last_end}
use Rattle.grove_proof.specs.declared.flow.FlowRow.{FlowRow}
use Rattle.grove_proof.specs.Flows.{is_child}

-- Numbers of each spanned node's lock and unlock that meet the five constraints, none above the number of accesses.
pub record Fits (rows : Rows) (nodes : List ℕ) (lock release : ℕ → ℕ) : Type 0 where
  pub above : (node parent : ℕ) → IsForcedByTree rows nodes node → IsForcedByTree rows nodes parent
      → parent_of rows node ≡ Some parent → lock parent ≤ lock node
  pub held : (node parent : ℕ) → IsForcedByTree rows nodes node → IsForcedByTree rows nodes parent
      → parent_of rows node ≡ Some parent → lock node ≤ release parent
  pub first : (node access : ℕ) → slice_get nodes access ≡ Some node → lock node ≤ access
  pub last : (node access : ℕ) → slice_get nodes access ≡ Some node → suc access ≤ release node
  pub own : (node : ℕ) → IsForcedByTree rows nodes node → lock node ≤ release node
  pub top : (node : ℕ) → IsForcedByTree rows nodes node → release node ≤ length nodes

-- They are tight where the rows of a flow have an amount.
pub record AreTight (rows : Rows) (nodes : List ℕ) (flow : List FlowRow) (lock release : ℕ → ℕ) : Type 0 where
  pub above : (i j : ℕ) (row parent : FlowRow) → slice_get flow i ≡ Some row → slice_get flow j ≡ Some parent
      → is_child rows row parent ≡ true → 0 < row.above → lock parent.node ≡ lock row.node
  pub held : (i j : ℕ) (row parent : FlowRow) → slice_get flow i ≡ Some row → slice_get flow j ≡ Some parent
      → is_child rows row parent ≡ true → 0 < row.held → lock row.node ≡ release parent.node
  pub first : (i : ℕ) (row : FlowRow) → slice_get flow i ≡ Some row → is_accessed nodes row.node ≡ true
      → 0 < row.first → lock row.node ≡ first_access nodes row.node
  pub last : (i : ℕ) (row : FlowRow) → slice_get flow i ≡ Some row → is_accessed nodes row.node ≡ true → 0 < row.last
      → last_end nodes row.node ≡ release row.node
  pub own : (i : ℕ) (row : FlowRow) → slice_get flow i ≡ Some row → 0 < row.own → lock row.node ≡ release row.node

-- They are the greatest of such.
pub record ArePlaces (rows : Rows) (nodes : List ℕ) (flow : List FlowRow) (lock release : ℕ → ℕ) : Type 0 where
  pub fits : Fits rows nodes lock release
  pub tight : AreTight rows nodes flow lock release
  pub lock_greatest : (lock2 release2 : ℕ → ℕ) → Fits rows nodes lock2 release2
      → AreTight rows nodes flow lock2 release2 → (node : ℕ) → IsForcedByTree rows nodes node → lock2 node ≤ lock node
  pub release_greatest : (lock2 release2 : ℕ → ℕ) → Fits rows nodes lock2 release2
      → AreTight rows nodes flow lock2 release2 → (node : ℕ) → IsForcedByTree rows nodes node → release2 node ≤ release node
