-- A legal plan that costs no more than the bound is tight along the flow.
use Rattle.std.proofs.Common.{◌≡◌, ℕ, zero, suc, true, ◌+◌, ◌*◌, ◌<◌, ◌≤◌, List, [], ◌∷◌, Some, refl, sym, ◌∙◌}
use Rattle.std.proofs.Common.{arith, mul-le-mul_left, mul-suc}
use Rattle.std.specs.List.{slice_get, sum_by}
use Rattle.std.proofs.lemmas.Option.{none-some, same_Some}
use Rattle.std.proofs.lemmas.Bool.{cases_order}
use Rattle.std.proofs.lemmas.List.Sums.{sum_by-cons}
use Rattle.grove_tree.specs.Trees.{Rows, IsTree}
use Rattle.grove_access.specs.Lists.{AreNodes}
use Rattle.grove_access.specs.Slots.{slots_before}
use Rattle.grove_access.specs.Forced.{is_accessed, first_access, last_end}
use Rattle.grove_plan.specs.declared.step.Step.{Step}
use Rattle.grove_plan.specs.Plans.{cost, IsLegal}
use Rattle.grove_proof.specs.declared.flow.FlowRow.{FlowRow}
use Rattle.grove_proof.specs.Five.{lock_time, release_time, MeetsFive}
use Rattle.grove_proof.specs.Flows.{is_child, gains, losses, Balances}
use Rattle.grove_proof.proofs.Sums.{sums_le}
use Rattle.grove_proof.proofs.FiveConstraints.{meets_five}
use Rattle.grove_proof.proofs.PricedRows.{parent_value, child_swap}
use Rattle.grove_proof.proofs.ForcedRows.{AreForcedRows, forced_rows, at_parent}
use Rattle.grove_proof.proofs.WeakDuality.{above_term, held_term, first_term, last_term, own_term, sums_at, sums_balance, sums_bounded, bound_and_slack}

-- where each term is at most another and the sums are the other way round, the terms are the same
sum_tight : {X : Type 0} (f g : X → ℕ) (xs : List X) → ((i : ℕ) (x : X) → slice_get xs i ≡ Some x → f x ≤ g x)
    → sum_by g xs ≤ sum_by f xs → (i : ℕ) (x : X) → slice_get xs i ≡ Some x → f x ≡ g x
sum_tight f g [] le less i x h = absurd (none-some x h)
sum_tight {X} f g (y ∷ xs) le less zero x h =
    let here : f y ≤ g y = le 0 y refl in
    let there : sum_by f xs ≤ sum_by g xs = sums_le f g xs (λ i z k. le (suc i) z k) in
    grind (arith, same_Some, sum_by-cons)
sum_tight f g (y ∷ xs) le less (suc i) x h =
    let here : f y ≤ g y = le 0 y refl in
    sum_tight f g xs (λ j z k. le (suc j) z k) (omega (arith, sum_by-cons f y xs, sum_by-cons g y xs)) i x h

-- what is priced the same by a positive amount is the same
cancel_less : (a x y : ℕ) → 0 < a → a * x ≡ a * y → x < y → ⊥
cancel_less a x y some e lt = omega (arith, mul-le-mul_left a lt, times a x)
  where
    times : (a x : ℕ) → a * suc x ≡ a * x + a
    times a x = omega (arith, mul-suc a x)

cancel : (a x y : ℕ) → 0 < a → a * x ≡ a * y → x ≡ y
cancel a x y some e = grind (arith, cancel_less, cases_order)

-- The times of a plan's locks and releases are tight where the rows of a flow have an amount.
pub record AreTightInTime (rows : Rows) (nodes lengths : List ℕ) (flow : List FlowRow) (plan : List Step) : Type 0 where
  pub above : (i j : ℕ) (row parent : FlowRow) → slice_get flow i ≡ Some row → slice_get flow j ≡ Some parent
      → is_child rows row parent ≡ true → 0 < row.above
      → lock_time lengths plan parent.node ≡ lock_time lengths plan row.node
  pub held : (i j : ℕ) (row parent : FlowRow) → slice_get flow i ≡ Some row → slice_get flow j ≡ Some parent
      → is_child rows row parent ≡ true → 0 < row.held
      → lock_time lengths plan row.node ≡ release_time lengths plan parent.node
  pub first : (i : ℕ) (row : FlowRow) → slice_get flow i ≡ Some row → is_accessed nodes row.node ≡ true
      → 0 < row.first → lock_time lengths plan row.node ≡ slots_before lengths (first_access nodes row.node)
  pub last : (i : ℕ) (row : FlowRow) → slice_get flow i ≡ Some row → is_accessed nodes row.node ≡ true → 0 < row.last
      → slots_before lengths (last_end nodes row.node) ≡ release_time lengths plan row.node
  pub own : (i : ℕ) (row : FlowRow) → slice_get flow i ≡ Some row → 0 < row.own
      → lock_time lengths plan row.node ≡ release_time lengths plan row.node

pub cheap_is_tight : (rows : Rows) (nodes lengths : List ℕ) (flow : List FlowRow) (plan : List Step) → IsTree rows
    → AreNodes rows nodes → Balances rows nodes flow → IsLegal rows nodes plan
    → cost rows lengths plan + losses nodes lengths flow ≤ gains nodes lengths flow
    → AreTightInTime rows nodes lengths flow plan
cheap_is_tight rows nodes lengths flow plan tree fits balances legal cheap =
    let are : AreForcedRows rows nodes flow = forced_rows rows nodes flow tree fits balances.forced in
    let five : MeetsFive rows nodes lengths plan = meets_five rows nodes lengths plan tree legal in
    let above = above_term rows nodes lengths flow plan are balances.signs five in
    let held = held_term rows nodes lengths flow plan are balances.signs five in
    let first = first_term rows nodes lengths flow plan are balances.signs five in
    let last = last_term rows nodes lengths flow plan are balances.signs five in
    let own = own_term rows nodes lengths flow plan are balances.signs five in
    let parents : ℕ = sum_by (λ child. child.above * parent_value rows flow (lock_time lengths plan) child) flow in
    let overs : ℕ = sum_by (λ child. child.held * parent_value rows flow (release_time lengths plan) child) flow in
    let slack = (bound_and_slack (sums_at rows nodes lengths flow plan) (sums_balance rows nodes lengths flow plan tree fits balances legal)
    (sums_bounded rows nodes lengths flow plan tree fits balances legal)).1 cheap in
    record {
      above = λ i j row parent a b child some.
          let e = sum_tight (λ c. c.above * parent_value rows flow (lock_time lengths plan) c)
          (λ r. r.above * lock_time lengths plan r.node) flow above
          (let s = child_swap rows flow (λ c. c.above) (lock_time lengths plan) in let t = slack.0 in omega arith) i row a in
          sym (at_parent rows nodes flow (lock_time lengths plan) are row parent j b child)
          ∙ cancel row.above (parent_value rows flow (lock_time lengths plan) row) (lock_time lengths plan row.node) some e;
      held = λ i j row parent a b child some.
          let e = sum_tight (λ r. r.held * lock_time lengths plan r.node)
          (λ c. c.held * parent_value rows flow (release_time lengths plan) c) flow held
          (let s = child_swap rows flow (λ c. c.held) (release_time lengths plan) in let t = slack.1 in omega arith) i row a in
          cancel row.held (lock_time lengths plan row.node) (parent_value rows flow (release_time lengths plan) row) some e
          ∙ at_parent rows nodes flow (release_time lengths plan) are row parent j b child;
      first = λ i row a accessed some.
          cancel row.first (lock_time lengths plan row.node) (slots_before lengths (first_access nodes row.node)) some
          (sum_tight (λ r. r.first * lock_time lengths plan r.node) (λ r. r.first * slots_before lengths (first_access nodes r.node)) flow first
          slack.2 i row a);
      last = λ i row a accessed some.
          cancel row.last (slots_before lengths (last_end nodes row.node)) (release_time lengths plan row.node) some
          (sum_tight (λ r. r.last * slots_before lengths (last_end nodes r.node)) (λ r. r.last * release_time lengths plan r.node) flow last slack.3
          i row a);
      own = λ i row a some.
          cancel row.own (lock_time lengths plan row.node) (release_time lengths plan row.node) some
          (sum_tight (λ r. r.own * lock_time lengths plan r.node) (λ r. r.own * release_time lengths plan r.node) flow own slack.4 i
          row a);
    }
