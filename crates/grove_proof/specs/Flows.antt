-- The certificate: amounts on the constraints of the forced nodes, judged by arithmetic alone.
use Rattle.std.specs.Prelude.{◌≡◌, ℕ, ◌+◌, ◌*◌, ◌^◌, ◌==◌, nat_le, Bool, true, false, ◌&&◌, ◌||◌, List, length}
use Rattle.std.specs.Prelude.{slice_get, map, sum_by, Option, Some, None, if◌then◌else◌}
use Rattle.grove_base.specs.Numbers.{any_below}
use Rattle.grove_tree.specs.Trees.{Rows, parent_of, weight_of, is_at}
use Rattle.grove_access.specs.Slots.{slots_before}
use Rattle.grove_access.specs.Forced.{is_accessed, first_access, last_end}
use Rattle.grove_proof.specs.declared.flow.FlowRow.{FlowRow}
use Rattle.grove_proof.specs.Forced.{IsForcedList}

abbrev pub node_of : FlowRow → ℕ
node_of row = row.node

-- one row's node is the parent of another's
abbrev pub is_child : Rows → FlowRow → FlowRow → Bool
is_child rows child row = is_at row.node (parent_of rows child.node)

-- an amount, added up over the children of a row
abbrev pub child_sum : Rows → (FlowRow → ℕ) → List FlowRow → FlowRow → ℕ
child_sum rows amount flow row = sum_by (λ child. if is_child rows child row then amount child else 0) flow

abbrev pub is_parent_at : Rows → FlowRow → Option FlowRow → Bool
is_parent_at rows child (Some row) = is_child rows child row
is_parent_at rows child None = false

-- some row has the parent of this row's node
abbrev pub has_parent : Rows → List FlowRow → FlowRow → Bool
has_parent rows flow row = any_below (length flow) (λ i. is_parent_at rows row (slice_get flow i))

-- the tests of one row

-- amounts stand only on constraints that there are: the top node has no parent here, and some nodes have no access
abbrev pub is_sign_ok : Rows → List ℕ → List FlowRow → FlowRow → Bool
is_sign_ok rows nodes flow row =
    (has_parent rows flow row || (row.above == 0 && row.held == 0))
    && (is_accessed nodes row.node || (row.first == 0 && row.last == 0))

abbrev pub is_small_amount : ℕ → Bool
is_small_amount amount = nat_le amount (2 ^ 40)

abbrev pub is_small : FlowRow → Bool
is_small row = is_small_amount row.above
    && (is_small_amount row.held
    && (is_small_amount row.first && (is_small_amount row.last && is_small_amount row.own)))

-- what the lock's constraints put on it makes up the weight
abbrev pub is_lock_balanced : Rows → List FlowRow → FlowRow → Bool
is_lock_balanced rows flow row = (row.above + weight_of rows row.node) ==
    (child_sum rows (λ child. child.above) flow row + row.held + row.first + row.own)

-- and so does what the release's constraints put on it
abbrev pub is_release_balanced : Rows → List FlowRow → FlowRow → Bool
is_release_balanced rows flow row = (child_sum rows (λ child. child.held) flow row + row.last + row.own) == weight_of
    rows row.node

abbrev pub AllRows : (FlowRow → Bool) → List FlowRow → Type 0
AllRows test flow = (i : ℕ) (row : FlowRow) → slice_get flow i ≡ Some row → test row ≡ true

-- the two halves of the bound, which is the first less the second
abbrev pub gains : List ℕ → List ℕ → List FlowRow → ℕ
gains nodes lengths flow = sum_by (λ row. row.last * slots_before lengths (last_end nodes row.node)) flow

abbrev pub losses : List ℕ → List ℕ → List FlowRow → ℕ
losses nodes lengths flow = sum_by (λ row. row.first * slots_before lengths (first_access nodes row.node)) flow

-- The rows balance; this is all that the bound needs.
pub record Balances (rows : Rows) (nodes : List ℕ) (flow : List FlowRow) : Type 0 where
  pub forced : IsForcedList rows nodes (map node_of flow)
  pub signs : AllRows (is_sign_ok rows nodes flow) flow
  pub locks : AllRows (is_lock_balanced rows flow) flow
  pub releases : AllRows (is_release_balanced rows flow) flow

-- The certificate of a cost.
pub record IsCertificate (rows : Rows) (nodes lengths : List ℕ) (flow : List FlowRow) (cost : ℕ) : Type 0 where
  pub balances : Balances rows nodes flow
  pub small : AllRows is_small flow
  pub value : gains nodes lengths flow ≡ cost + losses nodes lengths flow
