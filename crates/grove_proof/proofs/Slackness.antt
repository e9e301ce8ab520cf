-- Slackness: where a plan is tight at each positive amount, the bound is its cost.
use Rattle.std.proofs.Common.{◌≡◌, ℕ, zero, suc, ◌+◌, ◌*◌, ◌<◌, Bool, true, false, cond, List, length, Some, refl, sym, ◌∙◌, ap, inl, inr, arith, mul-zero}
use Rattle.std.specs.Prelude.{map}
use Rattle.std.specs.List.{slice_get}
use Rattle.std.proofs.lemmas.Bool.{both_ways, cond-false}
use Rattle.grove_tree.specs.Trees.{Rows, parent_of, weight_of, IsTree}
use Rattle.grove_base.proofs.Counting.{sum_same, sum_zero}
use Rattle.grove_tree.proofs.Tests.{is_at_true}
use Rattle.grove_access.specs.Lists.{AreNodes}
use Rattle.grove_access.specs.Slots.{slots_before}
use Rattle.grove_access.specs.Forced.{IsForcedByTree, is_forced, first_access, last_end}
use Rattle.grove_access.proofs.ForcedByTree.{forced_get}
use Rattle.grove_plan.specs.declared.step.Step.{Step}
use Rattle.grove_plan.specs.declared.step.Step.TheVariants.{Lock}
use Rattle.grove_plan.specs.Plans.{held, slots_of, holding, cost, IsLegal}
use Rattle.grove_plan.proofs.Held.{held_not}
use Rattle.grove_proof.specs.declared.flow.FlowRow.{FlowRow}
use Rattle.grove_proof.specs.Five.{lock_time, release_time}
use Rattle.grove_proof.specs.Flows.{node_of, is_small, AllRows, Balances, IsCertificate}
use Rattle.grove_proof.proofs.Sums.{sums_same}
use Rattle.grove_proof.proofs.ForcedList.{forced_list_is_by_tree}
use Rattle.grove_proof.proofs.PricedRows.{parent_value, child_swap}
use Rattle.grove_proof.proofs.ForcedRows.{AreForcedRows, forced_rows, parent_row, at_parent, has_signs, free_same}
use Rattle.grove_proof.proofs.WeakDuality.{forced_cost, PricedSums, sums_at, DoBalance, sums_balance}

-- A tight plan: each constraint with a positive amount is an equation at the plan's times.
pub record IsTight (rows : Rows) (nodes lengths : List ℕ) (flow : List FlowRow) (plan : List Step) : Type 0 where
  pub above : (i : ℕ) (row : FlowRow) (parent : ℕ) → slice_get flow i ≡ Some row → parent_of rows row.node ≡ Some parent → 0 < row.above → lock_time lengths plan parent ≡ lock_time lengths plan row.node
  pub held : (i : ℕ) (row : FlowRow) (parent : ℕ) → slice_get flow i ≡ Some row → parent_of rows row.node ≡ Some parent → 0 < row.held → lock_time lengths plan row.node ≡ release_time lengths plan parent
  pub first : (i : ℕ) (row : FlowRow) → slice_get flow i ≡ Some row → 0 < row.first → lock_time lengths plan row.node ≡ slots_before lengths (first_access nodes row.node)
  pub last : (i : ℕ) (row : FlowRow) → slice_get flow i ≡ Some row → 0 < row.last → slots_before lengths (last_end nodes row.node) ≡ release_time lengths plan row.node
  pub own : (i : ℕ) (row : FlowRow) → slice_get flow i ≡ Some row → 0 < row.own → lock_time lengths plan row.node ≡ release_time lengths plan row.node

-- an amount prices an equation, or is 0
tight_term : (a x y : ℕ) → (0 < a → x ≡ y) → a * x ≡ a * y
tight_term zero x y h = free_same 0 x y refl
tight_term (suc a) x y h = ap (λ (n : ℕ). suc a * n) (h (omega arith))

-- a plan that locks forced nodes alone holds no other
pub unforced_free : (rows : Rows) (nodes lengths : List ℕ) (plan : List Step) (v : ℕ) → IsTree rows
    → ((i w : ℕ) → slice_get plan i ≡ Some (Lock w) → IsForcedByTree rows nodes w) → is_forced rows nodes v ≡ false → holding lengths plan v ≡ 0
unforced_free rows nodes lengths plan v tree alone none = sum_zero (length plan) (λ q. cond (held plan v q) (slots_of lengths (slice_get plan q)) 0)
    (λ q lt. cond-false (held plan v q) (slots_of lengths (slice_get plan q)) 0 (held_not plan v q
    (λ at. both_ways (is_forced rows nodes v) none (forced_get rows nodes v tree (alone at.at v at.is_lock)))))

part_all : (b : Bool) (w x : ℕ) → (b ≡ false → x ≡ 0) → cond b (w * x) 0 ≡ w * x
part_all true w x h = refl
part_all false w x h = sym (ap (λ (n : ℕ). w * n) (h refl) ∙ mul-zero w)

-- the five constraints, priced, are equations, and the rows' part of the cost is all of it
record AreMet (s : PricedSums) : Type 0 where
  pub above : s.child_above ≡ s.above
  pub held : s.held ≡ s.child_held
  pub first : s.first ≡ s.firsts
  pub last : s.last_ends ≡ s.last
  pub own : s.own ≡ s.own_release
  pub hold : s.hold ≡ s.cost

-- so the bound is the cost
bound_same : (s : PricedSums) → DoBalance s → AreMet s → s.last_ends ≡ s.cost + s.firsts
bound_same s balance met = grind (arith)

-- the priced sums of rows at whose times a plan is tight, where it locks forced nodes alone
sums_met : (rows : Rows) (nodes lengths : List ℕ) (flow : List FlowRow) (plan : List Step) → IsTree rows → AreNodes rows nodes → Balances rows nodes flow
    → ((i v : ℕ) → slice_get plan i ≡ Some (Lock v) → IsForcedByTree rows nodes v) → IsTight rows nodes lengths flow plan → AreMet (sums_at rows nodes lengths flow plan)
sums_met rows nodes lengths flow plan tree fits balances alone tight =
    let are : AreForcedRows rows nodes flow = forced_rows rows nodes flow tree fits balances.forced in
    record {
      above = child_swap rows flow (λ child. child.above) (lock_time lengths plan)
          ∙ sums_same (λ child. child.above * parent_value rows flow (lock_time lengths plan) child) (λ row. row.above * lock_time lengths plan row.node) flow
          (λ i row is. elim (parent_row rows flow row) [
            | inl over ↦ grind (arith, at_parent, is_at_true, tight_term)
            | inr none ↦ free_same row.above (parent_value rows flow (lock_time lengths plan) row) (lock_time lengths plan row.node) ((has_signs rows nodes flow row (balances.signs i row is)).top none).0
          ]);
      held = sums_same (λ row. row.held * lock_time lengths plan row.node) (λ child. child.held * parent_value rows flow (release_time lengths plan) child) flow
          (λ i row is. elim (parent_row rows flow row) [
            | inl over ↦ grind (arith, at_parent, is_at_true, tight_term)
            | inr none ↦ free_same row.held (lock_time lengths plan row.node) (parent_value rows flow (release_time lengths plan) row) ((has_signs rows nodes flow row (balances.signs i row is)).top none).1
          ]) ∙ sym (child_swap rows flow (λ child. child.held) (release_time lengths plan));
      first = grind (arith, sums_same, tight_term);
      last = grind (arith, sums_same, tight_term);
      own = grind (arith, sums_same, tight_term);
      hold = forced_cost rows nodes lengths flow plan ((forced_list_is_by_tree rows nodes (map node_of flow) tree fits).0 balances.forced)
          ∙ sum_same (length rows) (λ v. cond (is_forced rows nodes v) (weight_of rows v * holding lengths plan v) 0) (λ v. weight_of rows v * holding lengths plan v)
          (λ v lt. part_all (is_forced rows nodes v) (weight_of rows v) (holding lengths plan v) (unforced_free rows nodes lengths plan v tree alone));
    }

-- rows that balance, with small amounts, certify a legal plan that locks forced nodes alone and at whose times they are tight
pub tight_is_certified : (rows : Rows) (nodes lengths : List ℕ) (flow : List FlowRow) (plan : List Step) → IsTree rows → AreNodes rows nodes → IsLegal rows nodes plan
    → Balances rows nodes flow → AllRows is_small flow → ((i v : ℕ) → slice_get plan i ≡ Some (Lock v) → IsForcedByTree rows nodes v) → IsTight rows nodes lengths flow plan
    → IsCertificate rows nodes lengths flow (cost rows lengths plan)
tight_is_certified rows nodes lengths flow plan tree fits legal balances small alone tight = record {
  balances = balances;
  small = small;
  value = bound_same (sums_at rows nodes lengths flow plan) (sums_balance rows nodes lengths flow plan tree fits balances legal) (sums_met rows nodes lengths flow plan tree fits balances alone tight);
}
