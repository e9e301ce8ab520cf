-- A tree cut down to some of its nodes and all that is above them, and what holds of plans over the cut tree.
use Rattle.std.specs.Prelude.{◌≡◌, ℕ, ◌<◌, ◌↔◌, List, length, map, option_map}
use Rattle.grove_tree.specs.Trees.{Rows, IsTree, parent_of, name_of, weight_of}
use Rattle.grove_tree.specs.Rules.{AreTreeRows}
use Rattle.grove_access.specs.Lists.{AreNodes}
use Rattle.grove_plan.specs.declared.step.Step.{Step}
use Rattle.grove_plan.specs.declared.step.Step.TheVariants.{Lock, Unlock, Access}
use Rattle.grove_plan.specs.Plans.{IsLegal, IsLeast, cost}
use Rattle.grove_proof.specs.declared.flow.FlowRow.{FlowRow}
use Rattle.grove_proof.specs.Flows.{IsCertificate}
use Rattle.grove_build.specs.Settled.{IsSettled}

-- A cut of a whole tree: rows of some of its nodes, in its order. A node's origin is its number in the whole tree. Names
-- are of no importance to plans, and may be others.
pub record IsCut (whole cut : Rows) (origin : ℕ → ℕ) : Type 0 where
  pub some : 0 < length cut
  pub rises : (a b : ℕ) → a < b → origin a < origin b
  pub within : (node : ℕ) → node < length cut ↔ origin node < length whole
  pub parents : (node : ℕ) → parent_of whole (origin node) ≡ option_map origin (parent_of cut node)
  pub weights : (node : ℕ) → weight_of whole (origin node) ≡ weight_of cut node

-- a plan and a flow with the origins of their nodes

abbrev pub step_at_origin : (ℕ → ℕ) → Step → Step
step_at_origin origin (Lock node) = Lock (origin node)
step_at_origin origin (Unlock node) = Unlock (origin node)
step_at_origin origin (Access access) = Access access

abbrev pub plan_at_origin : (ℕ → ℕ) → List Step → List Step
plan_at_origin origin plan = map (step_at_origin origin) plan

abbrev pub row_at_origin : (ℕ → ℕ) → FlowRow → FlowRow
row_at_origin origin row = record row { node = origin row.node }

abbrev pub flow_at_origin : (ℕ → ℕ) → List FlowRow → List FlowRow
flow_at_origin origin flow = map (row_at_origin origin) flow

-- a plan over a cut is legal, least or settled exactly where it is so over the whole tree, and costs the same
abbrev pub CutsKeepLegal : Type 0
CutsKeepLegal = (whole cut : Rows) (origin : ℕ → ℕ) → IsCut whole cut origin → (nodes : List ℕ) (plan : List Step)
    → IsLegal cut nodes plan ↔ IsLegal whole (map origin nodes) (plan_at_origin origin plan)

abbrev pub CutsKeepCost : Type 0
CutsKeepCost = (whole cut : Rows) (origin : ℕ → ℕ) → IsCut whole cut origin → (lengths : List ℕ) (plan : List Step)
    → cost whole lengths (plan_at_origin origin plan) ≡ cost cut lengths plan

abbrev pub CutsKeepLeast : Type 0
CutsKeepLeast = (whole cut : Rows) (origin : ℕ → ℕ) → IsTree whole → IsCut whole cut origin
    → (nodes lengths : List ℕ) (plan : List Step) → AreNodes cut nodes → IsLeast cut nodes lengths plan
    ↔ IsLeast whole (map origin nodes) lengths (plan_at_origin origin plan)

abbrev pub CutsKeepSettled : Type 0
CutsKeepSettled = (whole cut : Rows) (origin : ℕ → ℕ) → IsTree whole → IsCut whole cut origin
    → (nodes lengths : List ℕ) (plan : List Step) → AreNodes cut nodes → IsSettled cut nodes lengths plan
    ↔ IsSettled whole (map origin nodes) lengths (plan_at_origin origin plan)

-- and a flow certifies a cost over both or neither
abbrev pub CutsKeepCertificates : Type 0
CutsKeepCertificates = (whole cut : Rows) (origin : ℕ → ℕ) → IsTree whole → IsCut whole cut origin
    → (nodes lengths : List ℕ) (flow : List FlowRow) (claim : ℕ)
    → AreNodes cut nodes → IsCertificate cut nodes lengths flow claim
    ↔ IsCertificate whole (map origin nodes) lengths (flow_at_origin origin flow) claim

-- a cut of a tree, with its names, is a tree, and within the limits where the tree is
abbrev pub CutsAreTrees : Type 0
CutsAreTrees = (whole cut : Rows) (origin : ℕ → ℕ) → AreTreeRows whole → IsCut whole cut origin
    → ((node : ℕ) → name_of whole (origin node) ≡ name_of cut node) → AreTreeRows cut
