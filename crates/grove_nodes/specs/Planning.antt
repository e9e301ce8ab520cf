-- What a call that plans leaves in its caller's buffers.
use Rattle.std.specs.Prelude.{◌≡◌, ◌≢◌, ℕ, ◌<◌, ◌⊎◌, List, length, map}
use Rattle.grove_tree.specs.Trees.{Rows}
use Rattle.grove_access.specs.declared.fault.ListFault.{ListFault}
use Rattle.grove_access.specs.declared.fault.ListFault.TheVariants.{TooLong, NoNode, BadLength, Memory}
use Rattle.grove_plan.specs.declared.step.Step.{Step}
use Rattle.grove_plan.specs.Plans.{IsLeast, cost}
use Rattle.grove_proof.specs.declared.flow.FlowRow.{FlowRow}
use Rattle.grove_proof.specs.Flows.{IsCertificate}
use Rattle.grove_build.specs.Settled.{IsSettled}
use Rattle.grove_nodes.specs.declared.counted.Counted.{Counted}
use Rattle.grove_nodes.specs.declared.row.NumberedRow.{NumberedRow}
use Rattle.grove_nodes.specs.declared.status.Status.{Status}
use Rattle.grove_nodes.specs.declared.status.Status.TheVariants as status
use Rattle.grove_nodes.specs.declared.step.NumberedStep.{NumberedStep}
use Rattle.grove_nodes.specs.Lists.{IsListFault}
use Rattle.grove_nodes.specs.Numbered.{numbered, numbered_row, Begins}

-- the settled plan of accesses of these nodes, of these lengths, and a flow that certifies its cost
pub record IsPlannedBy (rows : Rows) (nodes lengths : List ℕ) (plan : List Step) (flow : List FlowRow) (price : ℕ)
    : Type 0 where
  pub settled : IsSettled rows nodes lengths plan
  pub least : IsLeast rows nodes lengths plan
  pub priced : price ≡ cost rows lengths plan
  pub certified : IsCertificate rows nodes lengths flow price

-- so many steps and rows are counted
pub record AreCounted (plan : List Step) (flow : List FlowRow) (counted : Counted) : Type 0 where
  pub steps : counted.steps ≡ length plan
  pub rows : counted.rows ≡ length flow

-- a caller's buffers for steps and for rows, before a call and after it
pub record Buffers : Type 0 where
  pub steps_before : List NumberedStep
  pub steps_after : List NumberedStep
  pub rows_before : List NumberedRow
  pub rows_after : List NumberedRow

pub record AreUntouched (buffers : Buffers) : Type 0 where
  pub steps : buffers.steps_after ≡ buffers.steps_before
  pub rows : buffers.rows_after ≡ buffers.rows_before

-- the buffers begin with the plan, and with the flow if there is any room for rows
pub record HoldBoth (plan : List Step) (flow : List FlowRow) (buffers : Buffers) : Type 0 where
  pub steps : Begins (map numbered plan) buffers.steps_before buffers.steps_after
  pub rows : 0 < length buffers.rows_before → Begins (map numbered_row flow) buffers.rows_before buffers.rows_after

-- one of the buffers is too small for what is counted
abbrev pub LackRoom : Counted → Buffers → Type 0
LackRoom counted buffers = (length buffers.steps_before < counted.steps)
    ⊎ ((0 < length buffers.rows_before) × (length buffers.rows_before < counted.rows))

abbrev pub refused_at : ℕ → Counted
refused_at place = record { cost = 0; steps = 0; rows = 0; place = place }

-- A plan and a flow of some kind are put into the buffers, or their place is asked for; or there is a reason at a place
-- for which there are none. In every case but the first the buffers are as they were.
abbrev pub PutsPlan : (List Step → List FlowRow → ℕ → Type 0) → (ℕ → Type 0) → Buffers → Counted → Status → Type 0
PutsPlan IsPlan IsReason buffers counted status.Done = (plan : List Step) × (flow : List FlowRow)
    × IsPlan plan flow counted.cost × AreCounted plan flow counted × HoldBoth plan flow buffers
PutsPlan IsPlan IsReason buffers counted status.Room = (plan : List Step) × (flow : List FlowRow)
    × IsPlan plan flow counted.cost × AreCounted plan flow counted × LackRoom counted buffers × AreUntouched buffers
PutsPlan IsPlan IsReason buffers counted status.Refused = IsReason counted.place × AreUntouched buffers
PutsPlan IsPlan IsReason buffers counted status.Memory = (counted ≡ refused_at 0) × AreUntouched buffers
PutsPlan IsPlan IsReason buffers counted status.Closed = ⊥

-- the access at fault; a list that is too long has one too many at place 64
abbrev pub place_of : ListFault → ℕ
place_of TooLong = 64
place_of (NoNode place) = place
place_of (BadLength place) = place
place_of Memory = 0

-- nodes and lengths are no list over the tree, for what stands at the place
abbrev pub AreUnlisted : Rows → List ℕ → List ℕ → ℕ → Type 0
AreUnlisted rows nodes lengths place = (fault : ListFault) × (fault ≢ Memory) × IsListFault rows nodes lengths fault
    × (place ≡ place_of fault)

-- the settled plan of these accesses is put
abbrev pub PlansNodes : Rows → List ℕ → List ℕ → Buffers → Counted → Status → Type 0
PlansNodes rows nodes lengths = PutsPlan (IsPlannedBy rows nodes lengths) (AreUnlisted rows nodes lengths)
