-- The first fault of a plan with a flow.
use Rattle.std.specs.Prelude.{◌≡◌, ◌≢◌, ℕ, ◌<◌, ℤ, pos, ◌-ℤ◌, Bool, true, false, List, slice_get, map, Some}
use Rattle.grove_tree.specs.Trees.{Rows}
use Rattle.grove_plan.specs.declared.step.Step.{Step}
use Rattle.grove_plan.specs.Plans.{IsLegal, cost}
use Rattle.grove_plan.specs.Faults.{plan_fault_of}
use Rattle.grove_proof.specs.declared.flow.FlowRow.{FlowRow}
use Rattle.grove_proof.specs.declared.fault.ProofFault.{ProofFault}
use Rattle.grove_proof.specs.declared.fault.ProofFault.TheVariants as fault
use Rattle.grove_proof.specs.Forced.{IsForcedList}
use Rattle.grove_proof.specs.Flows.{node_of, is_sign_ok, is_small, is_lock_balanced, is_release_balanced, AllRows}
use Rattle.grove_proof.specs.Flows.{gains, losses}

-- two lists differ first at a place, which may be the end of one of them
pub record IsFirstDifference (xs ys : List ℕ) (i : ℕ) : Type 0 where
  pub differ : slice_get xs i ≢ slice_get ys i
  pub before : (j : ℕ) → j < i → slice_get xs j ≡ slice_get ys j

-- the first place where the rows' nodes differ from the forced nodes
abbrev pub IsFirstStranger : Rows → List ℕ → List FlowRow → ℕ → Type 0
IsFirstStranger rows nodes flow i = (list : List ℕ) × IsForcedList rows nodes list
    × IsFirstDifference (map node_of flow) list i

-- the row at a place is the first that fails a test
pub record IsFirstBad (test : FlowRow → Bool) (flow : List FlowRow) (i : ℕ) : Type 0 where
  pub row : FlowRow
  pub there : slice_get flow i ≡ Some row
  pub fails : test row ≡ false
  pub before : (j : ℕ) (other : FlowRow) → j < i → slice_get flow j ≡ Some other → test other ≡ true

-- the bound that the rows give; it may be negative
abbrev pub bound : List ℕ → List ℕ → List FlowRow → ℤ
bound nodes lengths flow = pos (gains nodes lengths flow) -ℤ pos (losses nodes lengths flow)

-- what has been found right before each kind of fault is looked for

abbrev pub PassesRows : Rows → List ℕ → List Step → List FlowRow → Type 0
PassesRows rows nodes plan flow = IsLegal rows nodes plan × IsForcedList rows nodes (map node_of flow)

abbrev pub PassesSigns : Rows → List ℕ → List Step → List FlowRow → Type 0
PassesSigns rows nodes plan flow = PassesRows rows nodes plan flow × AllRows (is_sign_ok rows nodes flow) flow

abbrev pub PassesSizes : Rows → List ℕ → List Step → List FlowRow → Type 0
PassesSizes rows nodes plan flow = PassesSigns rows nodes plan flow × AllRows is_small flow

abbrev pub PassesLocks : Rows → List ℕ → List Step → List FlowRow → Type 0
PassesLocks rows nodes plan flow = PassesSizes rows nodes plan flow × AllRows (is_lock_balanced rows flow) flow

abbrev pub PassesReleases : Rows → List ℕ → List Step → List FlowRow → Type 0
PassesReleases rows nodes plan flow = PassesLocks rows nodes plan flow × AllRows (is_release_balanced rows flow) flow

-- the first fault of a plan with a flow, out of memory aside
abbrev pub IsFault : Rows → List ℕ → List ℕ → List Step → List FlowRow → ProofFault → Type 0
IsFault rows nodes lengths plan flow (fault.Plan f) = plan_fault_of rows nodes plan ≡ Some f
IsFault rows nodes lengths plan flow (fault.Rows i) = IsLegal rows nodes plan × IsFirstStranger rows nodes flow i
IsFault rows nodes lengths plan flow (fault.Sign i) = PassesRows rows nodes plan flow
    × IsFirstBad (is_sign_ok rows nodes flow) flow i
IsFault rows nodes lengths plan flow (fault.TooBig i) = PassesSigns rows nodes plan flow × IsFirstBad is_small flow i
IsFault rows nodes lengths plan flow (fault.LockBalance i) = PassesSizes rows nodes plan flow
    × IsFirstBad (is_lock_balanced rows flow) flow i
IsFault rows nodes lengths plan flow (fault.ReleaseBalance i) = PassesLocks rows nodes plan flow
    × IsFirstBad (is_release_balanced rows flow) flow i
IsFault rows nodes lengths plan flow (fault.Value c b) =
    PassesReleases rows nodes plan flow × (c ≡ cost rows lengths plan) × (b ≡ bound nodes lengths flow)
    × (bound nodes lengths flow ≢ pos (cost rows lengths plan))
IsFault rows nodes lengths plan flow fault.Memory = Unit {0}
