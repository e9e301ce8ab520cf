-- For the proofs alone: the bars of the nodes that were looked at so far.
use Rattle.std.specs.Prelude.{◌≡◌, ℕ, ◌*◌, List, map, sum_by, All, Bool, length, slice_get}
use Rattle.grove_base.specs.Numbers.{sum_below, passing_below, any_below}
use Rattle.grove_tree.specs.Trees.{Rows, weight_of}
use Rattle.grove_plan.specs.declared.step.Step.{Step}
use Rattle.grove_plan.specs.Plans.{holding, locks}
use Rattle.grove_draw.specs.declared.bar.Bar.{Bar}
use Rattle.grove_draw.specs.Pictures.{IsBarOf}

-- a plan locks a node, as a test
abbrev pub is_locked : List Step → ℕ → Bool
is_locked plan node = any_below (length plan) (λ i. locks node (slice_get plan i))

-- bars of the locked nodes below a number
pub record AreBarsBelow (tree : Rows) (lengths : List ℕ) (plan : List Step) (n : ℕ) (bars : List Bar) : Type 0 where
  pub nodes : map (λ bar. bar.node) bars ≡ passing_below n (is_locked plan)
  pub each : All (IsBarOf tree lengths plan) bars
  pub sum : sum_by (λ bar. bar.cost) bars ≡ sum_below n (λ node. weight_of tree node * holding lengths plan node)
