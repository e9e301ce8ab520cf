-- Lock plans, judged as whole lists of steps by their positions.
use Rattle.std.specs.Prelude.{◌≡◌, ℕ, ◌*◌, ◌<◌, ◌≤◌, ◌==◌, nat_lt, Bool, true, false, not, ◌&&◌, IsTrue, List, [], ◌∷◌}
use Rattle.std.specs.Prelude.{length, slice_get, slice_index, Option, Some, if◌then◌else◌}
use Rattle.grove_base.specs.Numbers.{any_below, sum_below, numbers_below}
use Rattle.grove_tree.specs.Trees.{Rows, parent_of, weight_of}
use Rattle.grove_plan.specs.declared.step.Step.{Step}
use Rattle.grove_plan.specs.declared.step.Step.TheVariants.{Lock, Unlock, Access}

-- tests of the step that a plan has at a position, if it has one there
abbrev pub locks : ℕ → Option Step → Bool
locks node (Some (Lock v)) = v == node
locks node _ = false

abbrev pub unlocks : ℕ → Option Step → Bool
unlocks node (Some (Unlock v)) = v == node
unlocks node _ = false

abbrev pub is_lock : Option Step → Bool
is_lock (Some (Lock v)) = true
is_lock _ = false

abbrev pub is_access : Option Step → Bool
is_access (Some (Access i)) = true
is_access _ = false

-- A node is held at a position where some lock of it stands before that, and no unlock of it between the two.
abbrev pub held : List Step → ℕ → ℕ → Bool
held plan node position =
    any_below position (λ i. locks node (slice_get plan i)
    && not (any_below position (λ j. nat_lt i j && unlocks node (slice_get plan j))))

-- the accesses that a plan does, in order
abbrev pub accesses_of : List Step → List ℕ
accesses_of [] = []
accesses_of (Access i ∷ steps) = i ∷ accesses_of steps
accesses_of (_ ∷ steps) = accesses_of steps

-- some lock stands before the position
abbrev pub IsLater : List Step → ℕ → Type 0
IsLater plan position = (i : ℕ) × (node : ℕ) × (i < position) × (slice_get plan i ≡ Some (Lock node))

-- The tree protocol.
pub record ObeysTreeProtocol (rows : Rows) (plan : List Step) : Type 0 where
  pub locks_nodes : (i node : ℕ) → slice_get plan i ≡ Some (Lock node) → node < length rows
  pub parents : (i node : ℕ) → slice_get plan i ≡ Some (Lock node) → IsLater plan i
      → (parent : ℕ) × (parent_of rows node ≡ Some parent) × IsTrue (held plan parent i)
  pub once : (i j node : ℕ) → slice_get plan i ≡ Some (Lock node) → slice_get plan j ≡ Some (Lock node) → i ≡ j
  pub unlocks_held : (i node : ℕ) → slice_get plan i ≡ Some (Unlock node) → IsTrue (held plan node i)
  pub ends_free : (node : ℕ) → held plan node (length plan) ≡ false

-- The accesses are done in the list's order, each while its node is held. A list is seen as its nodes.
pub record Performs (nodes : List ℕ) (plan : List Step) : Type 0 where
  pub in_order : accesses_of plan ≡ numbers_below (length nodes)
  pub while_held : (i access node : ℕ) → slice_get plan i ≡ Some (Access access) → slice_get nodes access ≡ Some node
      → IsTrue (held plan node i)

pub record IsLegal (rows : Rows) (nodes : List ℕ) (plan : List Step) : Type 0 where
  pub obeys : ObeysTreeProtocol rows plan
  pub performs : Performs nodes plan

-- how many slots a step takes: an access as many as it is long, another step none
abbrev pub slots_of : List ℕ → Option Step → ℕ
slots_of lengths (Some (Access i)) = slice_index lengths i
slots_of lengths _ = 0

-- for how many slots a plan holds a node: the lengths of the accesses that it does meanwhile, added up
abbrev pub holding : List ℕ → List Step → ℕ → ℕ
holding lengths plan node = sum_below (length plan)
    (λ position. if held plan node position then slots_of lengths (slice_get plan position) else 0)

-- what a plan costs: each node's weight for each slot in which it is held
abbrev pub cost : Rows → List ℕ → List Step → ℕ
cost rows lengths plan = sum_below (length rows) (λ node. weight_of rows node * holding lengths plan node)

-- a legal plan than which no legal plan for the list is cheaper
pub record IsLeast (rows : Rows) (nodes lengths : List ℕ) (plan : List Step) : Type 0 where
  pub legal : IsLegal rows nodes plan
  pub least : (other : List Step) → IsLegal rows nodes other → cost rows lengths plan ≤ cost rows lengths other

abbrev pub IsLockedBy : List Step → ℕ → Type 0
IsLockedBy plan node = (i : ℕ) × (slice_get plan i ≡ Some (Lock node))

-- every legal plan for the list locks the node
abbrev pub IsForced : Rows → List ℕ → ℕ → Type 0
IsForced rows nodes node = (plan : List Step) → IsLegal rows nodes plan → IsLockedBy plan node
