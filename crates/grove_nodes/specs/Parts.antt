-- Plans over a part of a tree.
use Rattle.std.specs.Prelude.{◌≡◌, ℕ, ◌⊎◌, List, map, slice_get, Some}
use Rattle.grove_tree.specs.Trees.{Rows, IsTree}
use Rattle.grove_tree.specs.Rules.{AreTreeRows}
use Rattle.grove_plan.specs.declared.step.Step.{Step}
use Rattle.grove_proof.specs.declared.flow.FlowRow.{FlowRow}
use Rattle.grove_cut.specs.CutTrees.{IsCut}
use Rattle.grove_nodes.specs.declared.counted.Counted.{Counted}
use Rattle.grove_nodes.specs.declared.part.PartNode.{PartNode}
use Rattle.grove_nodes.specs.declared.status.Status.{Status}
use Rattle.grove_nodes.specs.Planning.{AreUnlisted, Buffers, IsPlannedBy, PutsPlan}
use Rattle.grove_nodes.specs.Shapes.{HaveShape}

-- rows with the parents and weights of the part
abbrev pub HaveShapeOf : List PartNode → Rows → Type 0
HaveShapeOf part rows = HaveShape (map (λ node. node.parent) part) (map (λ node. node.weight) part) rows

-- the part is cut from a whole tree, in which its nodes have the numbers that are given
pub record IsPartOf (whole : Rows) (part : List PartNode) (origin : ℕ → ℕ) : Type 0 where
  pub cut : Rows
  pub shape : HaveShapeOf part cut
  pub is_cut : IsCut whole cut origin
  pub numbers : (place : ℕ) (node : PartNode) → slice_get part place ≡ Some node → origin place ≡ node.number

-- what is planned for accesses of these places of the part is planned over each whole tree that the part is cut from
abbrev pub IsPlannedWhole : List PartNode → List ℕ → List ℕ → List Step → List FlowRow → ℕ → Type 0
IsPlannedWhole part places lengths plan flow price = (whole : Rows) (origin : ℕ → ℕ) → IsTree whole
    → IsPartOf whole part origin → IsPlannedBy whole (map origin places) lengths plan flow price

-- the part is no tree, or the accesses are no list over it
abbrev pub IsNoTask : List PartNode → List ℕ → List ℕ → ℕ → Type 0
IsNoTask part places lengths place = ((rows : Rows) → HaveShapeOf part rows → ¬ AreTreeRows rows)
    ⊎ ((rows : Rows) → HaveShapeOf part rows → AreUnlisted rows places lengths place)

-- the settled plan of these accesses over the whole tree is put
abbrev pub PlansPart : List PartNode → List ℕ → List ℕ → Buffers → Counted → Status → Type 0
PlansPart part places lengths = PutsPlan (IsPlannedWhole part places lengths) (IsNoTask part places lengths)
