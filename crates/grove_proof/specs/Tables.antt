-- For the proofs alone: what the checker makes of a tree, a list and rows on its way.
use Rattle.std.specs.Prelude.{◌≡◌, ◌≢◌, ◌⊎◌, ℕ, ◌<◌, ◌≤◌, ◌^◌, pos, Bool, true, List, length, slice_get, sum_by, Some}
use Rattle.std.specs.Prelude.{Result, Ok, Err, map, if◌then◌else◌}
use Rattle.grove_base.specs.Numbers.{any_below, least_below, last_below}
use Rattle.grove_tree.specs.Trees.{Rows, parent_of, IsAbove, IsTree, is_at}
use Rattle.grove_access.specs.Forced.{is_forced, forced_nodes, names_at}
use Rattle.grove_access.specs.Lists.{AreNodes}
use Rattle.grove_plan.specs.declared.step.Step.{Step}
use Rattle.grove_plan.specs.Plans.{IsLegal, cost}
use Rattle.grove_proof.specs.declared.flow.FlowRow.{FlowRow}
use Rattle.grove_proof.specs.declared.fault.ProofFault.{ProofFault}
use Rattle.grove_proof.specs.declared.fault.ProofFault.TheVariants as fault
use Rattle.grove_proof.specs.declared.tables.Visits.{Visits}
use Rattle.grove_proof.specs.declared.tables.Amount.{Amount}
use Rattle.grove_proof.specs.declared.tables.Amount.TheVariants.{Above, Held}
use Rattle.grove_proof.specs.declared.row_sums.Test.{Test}
use Rattle.grove_proof.specs.declared.row_sums.Test.TheVariants.{Sign, Size, Lock, Release}
use Rattle.grove_proof.specs.Flows.{node_of, is_sign_ok, is_small, is_lock_balanced, is_release_balanced, AllRows}
use Rattle.grove_proof.specs.Flows.{IsCertificate}
use Rattle.grove_proof.specs.Faults.{IsFirstBad, IsFault, bound}

-- the lowest node above two nodes
pub record IsMeet (rows : Rows) (a b v : ℕ) : Type 0 where
  pub first : IsAbove rows v a
  pub second : IsAbove rows v b
  pub lowest : (c : ℕ) → IsAbove rows c a → IsAbove rows c b → IsAbove rows c v

-- a node above the nodes of the first n accesses, and the lowest such
abbrev pub IsOver : Rows → List ℕ → ℕ → ℕ → Type 0
IsOver rows nodes n v = (access target : ℕ) → access < n → slice_get nodes access ≡ Some target → IsAbove rows v target

pub record IsLowest (rows : Rows) (nodes : List ℕ) (n v : ℕ) : Type 0 where
  pub over : IsOver rows nodes n v
  pub lowest : (c : ℕ) → IsOver rows nodes n c → IsAbove rows c v

-- a node is marked
abbrev pub IsMarked : List Bool → ℕ → Type 0
IsMarked marks v = slice_get marks v ≡ Some true

-- the nodes from a node up to one above it are marked, besides those that were
pub record MarksWay (rows : Rows) (top from : ℕ) (old new : List Bool) : Type 0 where
  pub sound : (v : ℕ) → IsMarked new v → IsMarked old v ⊎ (IsAbove rows v from × IsAbove rows top v)
  pub kept : (v : ℕ) → IsMarked old v → IsMarked new v
  pub done : (v : ℕ) → IsAbove rows v from → IsAbove rows top v → IsMarked new v

-- the marked nodes are the forced ones
pub record MarksForced (rows : Rows) (nodes : List ℕ) (marks : List Bool) : Type 0 where
  pub size : length marks ≡ length rows
  pub marked : (v : ℕ) → v < length rows → slice_get marks v ≡ Some (is_forced rows nodes v)

-- the first access and the end of the last, of a node, among the first n accesses
pub record AreVisits (nodes : List ℕ) (n v : ℕ) (visits : Visits) : Type 0 where
  pub first : any_below n (names_at nodes v) ≡ true → visits.first ≡ least_below n (names_at nodes v)
  pub end : visits.end ≡ last_below n (names_at nodes v)
  pub few : visits.first ≤ n

abbrev pub VisitsByNode : Rows → List ℕ → ℕ → List Visits → Type 0
VisitsByNode rows nodes n table = (v : ℕ) → v < length rows → (visits : Visits) × (slice_get table v ≡ Some visits)
    × AreVisits nodes n v visits

-- the amount of a row that a name tells
abbrev pub amount_of : Amount → FlowRow → ℕ
amount_of Above row = row.above
amount_of Held row = row.held

-- an amount, added up over the rows of a node's children
abbrev pub sum_at : Rows → Amount → ℕ → List FlowRow → ℕ
sum_at rows amount v flow = sum_by (λ child. if is_at v (parent_of rows child.node) then amount_of amount child else 0)
    flow

abbrev pub SumsByNode : Rows → Amount → List FlowRow → List ℕ → Type 0
SumsByNode rows amount flow table = (v : ℕ) → v < length rows → slice_get table v ≡ Some (sum_at rows amount v flow)

-- no sum is great
abbrev pub AreBounded : List ℕ → Type 0
AreBounded table = (v sum : ℕ) → slice_get table v ≡ Some sum → sum ≤ 2 ^ 96

-- the tests of a row
abbrev pub test_of : Rows → List ℕ → List FlowRow → Test → FlowRow → Bool
test_of rows nodes flow Sign row = is_sign_ok rows nodes flow row
test_of rows nodes flow Size row = is_small row
test_of rows nodes flow Lock row = is_lock_balanced rows flow row
test_of rows nodes flow Release row = is_release_balanced rows flow row

-- each row's node is a node of the tree
abbrev pub AreInTree : Rows → List FlowRow → Type 0
AreInTree rows flow = (i : ℕ) (row : FlowRow) → slice_get flow i ≡ Some row → row.node < length rows

-- rows whose nodes are the forced ones, with what their tests read
pub record AreSums (rows : Rows) (nodes : List ℕ) (flow : List FlowRow) (visits : List Visits)
    (above held : List ℕ) : Type 0 where
  pub tree : IsTree rows
  pub fits : AreNodes rows nodes
  pub short : length nodes ≤ 64
  pub few : length flow < 2 ^ 32
  pub listed : map node_of flow ≡ forced_nodes rows nodes
  pub visits_right : VisitsByNode rows nodes (length nodes) visits
  pub above_right : SumsByNode rows Above flow above
  pub above_bounded : AreBounded above
  pub held_right : SumsByNode rows Held flow held
  pub held_bounded : AreBounded held

-- all rows pass all tests
pub record PassAll (rows : Rows) (nodes : List ℕ) (flow : List FlowRow) : Type 0 where
  pub signs : AllRows (is_sign_ok rows nodes flow) flow
  pub sizes : AllRows is_small flow
  pub locks : AllRows (is_lock_balanced rows flow) flow
  pub releases : AllRows (is_release_balanced rows flow) flow

-- the first fault of rows whose nodes are right
abbrev pub IsRowsFault : Rows → List ℕ → List ℕ → List FlowRow → ℕ → ProofFault → Type 0
IsRowsFault rows nodes lengths flow sum (fault.Plan f) = ⊥
IsRowsFault rows nodes lengths flow sum (fault.Rows i) = ⊥
IsRowsFault rows nodes lengths flow sum (fault.Sign i) = IsFirstBad (is_sign_ok rows nodes flow) flow i
IsRowsFault rows nodes lengths flow sum (fault.TooBig i) = AllRows (is_sign_ok rows nodes flow) flow
    × IsFirstBad is_small flow i
IsRowsFault rows nodes lengths flow sum (fault.LockBalance i) = AllRows (is_sign_ok rows nodes flow) flow
    × AllRows is_small flow × IsFirstBad (is_lock_balanced rows flow) flow i
IsRowsFault rows nodes lengths flow sum (fault.ReleaseBalance i) =
    AllRows (is_sign_ok rows nodes flow) flow × AllRows is_small flow × AllRows (is_lock_balanced rows flow) flow
    × IsFirstBad (is_release_balanced rows flow) flow i
IsRowsFault rows nodes lengths flow sum (fault.Value c b) = PassAll rows nodes flow × (c ≡ sum)
    × (b ≡ bound nodes lengths flow) × (bound nodes lengths flow ≢ pos sum)
IsRowsFault rows nodes lengths flow sum fault.Memory = ⊥

-- what the checker answers
abbrev pub IsVerdict : Rows → List ℕ → List ℕ → List Step → List FlowRow → Result ℕ ProofFault → Type 0
IsVerdict rows nodes lengths plan flow (Ok sum) = (sum ≡ cost rows lengths plan) × IsLegal rows nodes plan
    × IsCertificate rows nodes lengths flow (cost rows lengths plan)
IsVerdict rows nodes lengths plan flow (Err e) = e ≢ fault.Memory → IsFault rows nodes lengths plan flow e
    × (IsLegal rows nodes plan → ¬ IsCertificate rows nodes lengths flow (cost rows lengths plan))
