-- For the proofs alone: what is known of a plan before the step at a position, as it is followed step by step.
use Rattle.std.specs.Prelude.{◌≡◌, ℕ, ◌*◌, ◌<◌, ◌≤◌, Bool, true, false, List, Option, Some, None, length, slice_get}
use Rattle.std.specs.Prelude.{slice_index_or, if◌then◌else◌}
use Rattle.grove_base.specs.Numbers.{any_below, sum_below, least_below}
use Rattle.grove_tree.specs.Trees.{Rows, weight_of}
use Rattle.grove_plan.specs.declared.step.Step.{Step}
use Rattle.grove_plan.specs.declared.tally.Hold.{Hold}
use Rattle.grove_plan.specs.declared.tally.Hold.TheVariants.{Free, Held, Done}
use Rattle.grove_plan.specs.declared.tally.Tally.{Tally}
use Rattle.grove_plan.specs.Plans.{locks, held, slots_of}
use Rattle.grove_plan.specs.Slots.{accesses_before}
use Rattle.grove_plan.specs.Faults.{is_later}

-- what the steps before a position did with a node: locked it never, hold it, or let it go again
abbrev pub hold_of : List Step → ℕ → ℕ → Hold
hold_of plan node position =
    if held plan node position then Held
    else if any_below position (λ i. locks node (slice_get plan i)) then Done
    else Free

abbrev pub is_free : Hold → Bool
is_free Free = true
is_free _ = false

abbrev pub is_holding : Hold → Bool
is_holding Held = true
is_holding _ = false

-- a table of what was done with each node tells that a node is held, where there is one
abbrev pub holds_node : List Hold → Option ℕ → Bool
holds_node holds None = false
holds_node holds (Some node) = is_holding (slice_index_or holds node Free)

abbrev pub first_holding : List Hold → Option ℕ
first_holding holds =
    if any_below (length holds) (λ node. holds_node holds (Some node)) then Some
    (least_below (length holds) (λ node. holds_node holds (Some node)))
    else None

-- the weights of the nodes held at a position, added up
abbrev pub held_weight : Rows → List Step → ℕ → ℕ
held_weight rows plan position = sum_below (length rows)
    (λ node. if held plan node position then weight_of rows node else 0)

-- what the accesses before a position cost
abbrev pub cost_before : Rows → List ℕ → List Step → ℕ → ℕ
cost_before rows lengths plan position =
    sum_below (length rows)
    (λ node. weight_of rows node * sum_below position
    (λ i. if held plan node i then slots_of lengths (slice_get plan i) else 0))

-- the tally of the steps before a position
pub record IsTally (rows : Rows) (lengths : List ℕ) (plan : List Step) (position : ℕ) (tally : Tally) : Type 0 where
  pub nodes : length tally.holds.items ≡ length rows
  pub each : (node : ℕ) → node < length rows → slice_index_or tally.holds.items node Free ≡ hold_of plan node position
  pub later : tally.later ≡ is_later plan position
  pub accesses : tally.accesses ≡ accesses_before plan position
  pub weight : tally.weight ≡ held_weight rows plan position
  pub cost : tally.cost ≡ cost_before rows lengths plan position
  pub small : tally.cost ≤ 4096000000 * position
