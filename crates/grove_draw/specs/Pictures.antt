-- What is drawn of a plan.
use Rattle.std.specs.Prelude.{◌≡◌, ℕ, ◌*◌, ◌↔◌, List, map, sum_by, All, Some, string_bytes}
use Rattle.grove_tree.specs.Trees.{Rows, weight_of, depth_of}
use Rattle.grove_tree.specs.Paths.{path_of}
use Rattle.grove_access.specs.declared.access.Access.{Access}
use Rattle.grove_access.specs.Lists.{lengths_of}
use Rattle.grove_plan.specs.declared.step.Step.{Step}
use Rattle.grove_plan.specs.Plans.{holding, cost, IsLockedBy}
use Rattle.grove_plan.specs.Slots.{slot_of_lock, slot_of_release}
use Rattle.grove_proof.specs.Forced.{Ascends, IsAmong}
use Rattle.grove_draw.specs.declared.bar.Bar.{Bar}
use Rattle.grove_draw.specs.declared.picture.Picture.{Picture}

-- the nodes that a plan locks, in the tree's order
pub record AreLocked (plan : List Step) (nodes : List ℕ) : Type 0 where
  pub ascend : Ascends nodes
  pub locked : (node : ℕ) → IsAmong nodes node ↔ IsLockedBy plan node

-- a bar lasts from its node's lock to its release, and costs what the plan's holding of the node does
pub record IsBarOf (tree : Rows) (lengths : List ℕ) (plan : List Step) (bar : Bar) : Type 0 where
  pub path : string_bytes bar.path ≡ path_of tree bar.node
  pub depth : bar.depth ≡ depth_of tree bar.node
  pub weight : bar.weight ≡ weight_of tree bar.node
  pub lock : slot_of_lock plan bar.node ≡ Some bar.lock
  pub release : slot_of_release plan bar.node ≡ Some bar.release
  pub cost : bar.cost ≡ weight_of tree bar.node * holding lengths plan bar.node

-- the picture of a plan for a list: a bar for each locked node; what the bars cost makes up what the plan costs
pub record IsPictureOf (tree : Rows) (list : List Access) (plan : List Step) (picture : Picture) : Type 0 where
  pub nodes : AreLocked plan (map (λ bar. bar.node) picture.bars.items)
  pub bars : All (IsBarOf tree (lengths_of list) plan) picture.bars.items
  pub accesses : picture.accesses.items ≡ list
  pub cost : picture.cost ≡ cost tree (lengths_of list) plan
  pub sum : sum_by (λ bar. bar.cost) picture.bars.items ≡ picture.cost
