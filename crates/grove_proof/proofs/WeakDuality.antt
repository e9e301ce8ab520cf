-- Weak duality: the bound of rows that balance is at most the cost of every legal plan.
use Rattle.std.proofs.Common.{◌≡◌, ℕ, ◌+◌, ◌*◌, ◌≤◌, Bool, true, false, cond, List, length, Some, sym, ◌∙◌, ap, inl}
use Rattle.std.proofs.Common.{inr, arith, mul-add, mul-le-mul_left}
use Rattle.std.specs.Prelude.{map}
use Rattle.std.specs.List.{slice_get, sum_by}
use Rattle.std.proofs.lemmas.Bool.{cases_Bool}
use Rattle.grove_base.specs.Numbers.{sum_below}
use Rattle.grove_tree.specs.Trees.{Rows, weight_of, IsTree}
use Rattle.grove_base.proofs.Counting.{sum_le}
use Rattle.grove_tree.proofs.Tests.{is_at_true}
use Rattle.grove_access.specs.Lists.{AreNodes}
use Rattle.grove_access.specs.Slots.{slots_before}
use Rattle.grove_access.specs.Forced.{is_forced, forced_nodes, is_accessed, first_access, last_end}
use Rattle.grove_plan.specs.declared.step.Step.{Step}
use Rattle.grove_plan.specs.Plans.{held, holding, cost, IsLegal}
use Rattle.grove_proof.specs.declared.flow.FlowRow.{FlowRow}
use Rattle.grove_proof.specs.Five.{lock_time, release_time, MeetsFive}
use Rattle.grove_proof.specs.Flows.{node_of, child_sum, is_sign_ok, AllRows, gains, losses, Balances}
use Rattle.grove_proof.specs.Laws.{WeakDuality, CertifiedIsLeast}
use Rattle.grove_proof.proofs.Sums.{sums_same, sums_le, sums_add, sums_map, sums_passing}
use Rattle.grove_proof.proofs.ForcedList.{forced_list_is_by_tree}
use Rattle.grove_proof.proofs.FiveConstraints.{meets_five}
use Rattle.grove_proof.proofs.PricedRows.{priced, parent_value, priced_locks, priced_releases, child_swap}
use Rattle.grove_proof.proofs.ForcedRows.{AreForcedRows, forced_rows, parent_row, at_parent, has_signs, first_is, last_is_end, free}

-- The five constraints, priced

module _ (rows : Rows) (nodes lengths : List ℕ) (flow : List FlowRow) (plan : List Step) (are : AreForcedRows rows nodes flow)
    (signs : AllRows (is_sign_ok rows nodes flow) flow) (five : MeetsFive rows nodes lengths plan) where
  pub above_term : (i : ℕ) (row : FlowRow) → slice_get flow i ≡ Some row → row.above * parent_value rows flow (lock_time lengths plan) row ≤ row.above * lock_time lengths plan row.node
  above_term i row is = elim (parent_row rows flow row) [
    | inl over ↦ grind (arith, at_parent, is_at_true, mul-le-mul_left)
    | inr none ↦ free row.above (parent_value rows flow (lock_time lengths plan) row) (lock_time lengths plan row.node) ((has_signs rows nodes flow row (signs i row is)).top none).0
  ]

  -- a child's lock comes no later than its parent's release
  pub held_term : (i : ℕ) (row : FlowRow) → slice_get flow i ≡ Some row → row.held * lock_time lengths plan row.node ≤ row.held * parent_value rows flow (release_time lengths plan) row
  held_term i row is = elim (parent_row rows flow row) [
    | inl over ↦ grind (arith, at_parent, is_at_true, mul-le-mul_left)
    | inr none ↦ free row.held (lock_time lengths plan row.node) (parent_value rows flow (release_time lengths plan) row) ((has_signs rows nodes flow row (signs i row is)).top none).1
  ]

  -- a lock comes no later than the node's first access
  pub first_term : (i : ℕ) (row : FlowRow) → slice_get flow i ≡ Some row → row.first * lock_time lengths plan row.node ≤ row.first * slots_before lengths (first_access nodes row.node)
  first_term i row is = elim (cases_Bool (is_accessed nodes row.node)) [
    | inl some ↦ mul-le-mul_left row.first (five.first row.node (first_access nodes row.node) (first_is nodes row.node some))
    | inr none ↦ free row.first (lock_time lengths plan row.node) (slots_before lengths (first_access nodes row.node)) ((has_signs rows nodes flow row (signs i row is)).unaccessed none).0
  ]

  -- a release comes no earlier than the end of the last one
  pub last_term : (i : ℕ) (row : FlowRow) → slice_get flow i ≡ Some row → row.last * slots_before lengths (last_end nodes row.node) ≤ row.last * release_time lengths plan row.node
  last_term i row is = elim (cases_Bool (is_accessed nodes row.node)) [
    | inl some ↦ grind (arith, last_is_end, mul-le-mul_left)
    | inr none ↦ free row.last (slots_before lengths (last_end nodes row.node)) (release_time lengths plan row.node) ((has_signs rows nodes flow row (signs i row is)).unaccessed none).1
  ]

  -- and no earlier than the lock
  pub own_term : (i : ℕ) (row : FlowRow) → slice_get flow i ≡ Some row → row.own * lock_time lengths plan row.node ≤ row.own * release_time lengths plan row.node
  own_term i row is = mul-le-mul_left row.own (five.own row.node (are.forced i row is))

  -- the weights' releases are their locks and holdings
  pub holding_sums : priced flow (λ row. weight_of rows row.node) (release_time lengths plan)
      ≡ priced flow (λ row. weight_of rows row.node) (lock_time lengths plan) + priced flow (λ row. weight_of rows row.node) (holding lengths plan)
  holding_sums =
      sums_same (λ row. weight_of rows row.node * release_time lengths plan row.node) (λ row. weight_of rows row.node * lock_time lengths plan row.node + weight_of rows row.node * holding lengths plan row.node) flow
      (λ i row is. ap (λ (n : ℕ). weight_of rows row.node * n) (sym (five.holds row.node (are.forced i row is))) ∙ mul-add (weight_of rows row.node) (lock_time lengths plan row.node) (holding lengths plan row.node))
      ∙ sums_add (λ row. weight_of rows row.node * lock_time lengths plan row.node) (λ row. weight_of rows row.node * holding lengths plan row.node) flow

-- the rows' part of the cost
pub forced_cost : (rows : Rows) (nodes lengths : List ℕ) (flow : List FlowRow) (plan : List Step) → map node_of flow ≡ forced_nodes rows nodes
    → priced flow (λ row. weight_of rows row.node) (holding lengths plan) ≡ sum_below (length rows) (λ v. cond (is_forced rows nodes v) (weight_of rows v * holding lengths plan v) 0)
forced_cost rows nodes lengths flow plan e =
    sym (sums_map (λ v. weight_of rows v * holding lengths plan v) node_of flow)
    ∙ (ap (λ (xs : List ℕ). sum_by (λ v. weight_of rows v * holding lengths plan v) xs) e
    ∙ sums_passing (λ v. weight_of rows v * holding lengths plan v) (length rows) (is_forced rows nodes))

part_le : (b : Bool) (x : ℕ) → cond b x 0 ≤ x
part_le true x = omega arith
part_le false x = omega arith

-- the forced nodes' part of the cost is at most the cost
pub forced_cost_le : (rows : Rows) (nodes lengths : List ℕ) (flow : List FlowRow) (plan : List Step) → map node_of flow ≡ forced_nodes rows nodes
    → priced flow (λ row. weight_of rows row.node) (holding lengths plan) ≤ cost rows lengths plan
forced_cost_le rows nodes lengths flow plan e = rw (forced_cost rows nodes lengths flow plan e)
    (sum_le (length rows) (λ v. cond (is_forced rows nodes v) (weight_of rows v * holding lengths plan v) 0) (λ v. weight_of rows v * holding lengths plan v)
    (λ v lt. part_le (is_forced rows nodes v) (weight_of rows v * holding lengths plan v)))

-- What the rows of a flow price at a plan's times, added up over the rows: the two sides of each of the five constraints, the weights, and the cost.
pub record PricedSums : Type 0 where
  pub above : ℕ
  pub child_above : ℕ
  pub held : ℕ
  pub child_held : ℕ
  pub first : ℕ
  pub firsts : ℕ
  pub last : ℕ
  pub last_ends : ℕ
  pub own : ℕ
  pub own_release : ℕ
  pub locks : ℕ
  pub releases : ℕ
  pub hold : ℕ
  pub cost : ℕ

abbrev pub sums_at : Rows → List ℕ → List ℕ → List FlowRow → List Step → PricedSums
sums_at rows nodes lengths flow plan = record {
  above = priced flow (λ row. row.above) (lock_time lengths plan);
  child_above = priced flow (child_sum rows (λ child. child.above) flow) (lock_time lengths plan);
  held = priced flow (λ row. row.held) (lock_time lengths plan);
  child_held = priced flow (child_sum rows (λ child. child.held) flow) (release_time lengths plan);
  first = priced flow (λ row. row.first) (lock_time lengths plan);
  firsts = losses nodes lengths flow;
  last = priced flow (λ row. row.last) (release_time lengths plan);
  last_ends = gains nodes lengths flow;
  own = priced flow (λ row. row.own) (lock_time lengths plan);
  own_release = priced flow (λ row. row.own) (release_time lengths plan);
  locks = priced flow (λ row. weight_of rows row.node) (lock_time lengths plan);
  releases = priced flow (λ row. weight_of rows row.node) (release_time lengths plan);
  hold = priced flow (λ row. weight_of rows row.node) (holding lengths plan);
  cost = cost rows lengths plan;
}

-- rows that balance, and holdings that last from the locks to the releases
pub record DoBalance (s : PricedSums) : Type 0 where
  pub at_locks : s.above + s.locks ≡ ((s.child_above + s.held) + s.first) + s.own
  pub at_releases : (s.child_held + s.last) + s.own_release ≡ s.releases
  pub holdings : s.releases ≡ s.locks + s.hold

-- the five constraints, priced, and the rows' part of the cost
pub record AreBounded (s : PricedSums) : Type 0 where
  pub above : s.child_above ≤ s.above
  pub held : s.held ≤ s.child_held
  pub first : s.first ≤ s.firsts
  pub last : s.last_ends ≤ s.last
  pub own : s.own ≤ s.own_release
  pub hold : s.hold ≤ s.cost

-- the priced sums of rows that balance do
pub sums_balance : (rows : Rows) (nodes lengths : List ℕ) (flow : List FlowRow) (plan : List Step) → IsTree rows → AreNodes rows nodes → Balances rows nodes flow → IsLegal rows nodes plan
    → DoBalance (sums_at rows nodes lengths flow plan)
sums_balance rows nodes lengths flow plan tree fits balances legal = record {
  at_locks = priced_locks rows flow (lock_time lengths plan) balances.locks;
  at_releases = priced_releases rows flow (release_time lengths plan) balances.releases;
  holdings = holding_sums rows nodes lengths flow plan (forced_rows rows nodes flow tree fits balances.forced) balances.signs (meets_five rows nodes lengths plan tree legal);
}

-- and they are bounded
pub sums_bounded : (rows : Rows) (nodes lengths : List ℕ) (flow : List FlowRow) (plan : List Step) → IsTree rows → AreNodes rows nodes → Balances rows nodes flow → IsLegal rows nodes plan
    → AreBounded (sums_at rows nodes lengths flow plan)
sums_bounded rows nodes lengths flow plan tree fits balances legal =
    let are : AreForcedRows rows nodes flow = forced_rows rows nodes flow tree fits balances.forced in
    let five : MeetsFive rows nodes lengths plan = meets_five rows nodes lengths plan tree legal in
    record {
      above = rw (child_swap rows flow (λ child. child.above) (lock_time lengths plan))
          (sums_le (λ child. child.above * parent_value rows flow (lock_time lengths plan) child) (λ row. row.above * lock_time lengths plan row.node) flow (above_term rows nodes lengths flow plan are balances.signs five));
      held = rw (child_swap rows flow (λ child. child.held) (release_time lengths plan))
          (sums_le (λ row. row.held * lock_time lengths plan row.node) (λ child. child.held * parent_value rows flow (release_time lengths plan) child) flow (held_term rows nodes lengths flow plan are balances.signs five));
      first = sums_le (λ row. row.first * lock_time lengths plan row.node) (λ row. row.first * slots_before lengths (first_access nodes row.node)) flow (first_term rows nodes lengths flow plan are balances.signs five);
      last = sums_le (λ row. row.last * slots_before lengths (last_end nodes row.node)) (λ row. row.last * release_time lengths plan row.node) flow (last_term rows nodes lengths flow plan are balances.signs five);
      own = sums_le (λ row. row.own * lock_time lengths plan row.node) (λ row. row.own * release_time lengths plan row.node) flow (own_term rows nodes lengths flow plan are balances.signs five);
      hold = forced_cost_le rows nodes lengths flow plan ((forced_list_is_by_tree rows nodes (map node_of flow) tree fits).0 balances.forced);
    }

-- so the bound is at most the cost; where it isn't less, no bounded sum leaves any slack
pub bound_and_slack : (s : PricedSums) → DoBalance s → AreBounded s → (s.last_ends ≤ s.cost + s.firsts)
    × (s.cost + s.firsts ≤ s.last_ends → (s.above ≤ s.child_above) × (s.child_held ≤ s.held) × (s.firsts ≤ s.first) × (s.last ≤ s.last_ends) × (s.own_release ≤ s.own))
bound_and_slack s balance bounded = grind (arith)

-- the bound of rows that balance is at most the cost of every legal plan
pub weak_duality : WeakDuality
weak_duality rows nodes lengths flow plan tree fits balances legal = (bound_and_slack (sums_at rows nodes lengths flow plan)
    (sums_balance rows nodes lengths flow plan tree fits balances legal) (sums_bounded rows nodes lengths flow plan tree fits balances legal)).0

-- accepted means least
pub certified_is_least : CertifiedIsLeast
certified_is_least rows nodes lengths flow plan tree fits legal certificate = grind (arith, weak_duality)
