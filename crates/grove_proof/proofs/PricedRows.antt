-- The balances of rows, each times a value of its node, added up.
use Rattle.std.proofs.Common.{◌≡◌, ℕ, ◌+◌, ◌*◌, Bool, true, false, cond, List, refl, sym, ◌∙◌, ap, add-mul, mul-zero, zero-mul}
use Rattle.std.specs.List.{sum_by}
use Rattle.std.proofs.lemmas.Bool.{eqb-true}
use Rattle.grove_tree.specs.Trees.{Rows, weight_of}
use Rattle.grove_plan.specs.Plans.{held}
use Rattle.grove_proof.specs.declared.flow.FlowRow.{FlowRow}
use Rattle.grove_proof.specs.Flows.{is_child, child_sum, is_lock_balanced, is_release_balanced, AllRows}
use Rattle.grove_proof.proofs.Sums.{sums_same, sums_add, sums_times, sums_scale, sums_swap}

-- an amount times a value of each row's node, added up
abbrev pub priced : List FlowRow → (FlowRow → ℕ) → (ℕ → ℕ) → ℕ
priced flow amount value = sum_by (λ row. amount row * value row.node) flow

-- a value of the parent of a row's node, where there is a row of it, and 0 else
abbrev pub parent_value : Rows → List FlowRow → (ℕ → ℕ) → FlowRow → ℕ
parent_value rows flow value child = sum_by (λ row. cond (is_child rows child row) (value row.node) 0) flow

-- The balances, priced

weigh_lock : (a w c h f o x : ℕ) → a + w ≡ c + h + f + o → a * x + w * x ≡ ((c * x + h * x) + f * x) + o * x
weigh_lock a w c h f o x e = sym (add-mul a w x) ∙ (ap (λ (n : ℕ). n * x) e ∙ (add-mul (c + h + f) o x
    ∙ ap (λ (n : ℕ). n + o * x) (add-mul (c + h) f x ∙ ap (λ (n : ℕ). n + f * x) (add-mul c h x))))

weigh_release : (c l o w x : ℕ) → c + l + o ≡ w → (c * x + l * x) + o * x ≡ w * x
weigh_release c l o w x e = sym (add-mul (c + l) o x ∙ ap (λ (n : ℕ). n + o * x) (add-mul c l x)) ∙ ap (λ (n : ℕ). n * x) e

-- the balances at the locks, each times a value of the row's node
pub priced_locks : (rows : Rows) (flow : List FlowRow) (value : ℕ → ℕ) → AllRows (is_lock_balanced rows flow) flow
    → priced flow (λ row. row.above) value + priced flow (λ row. weight_of rows row.node) value
    ≡ ((priced flow (child_sum rows (λ child. child.above) flow) value + priced flow (λ row. row.held) value) + priced flow (λ row. row.first) value) + priced flow (λ row. row.own) value
priced_locks rows flow value balanced =
    let a : FlowRow → ℕ = λ row. row.above * value row.node in
    let w : FlowRow → ℕ = λ row. weight_of rows row.node * value row.node in
    let c : FlowRow → ℕ = λ row. child_sum rows (λ child. child.above) flow row * value row.node in
    let h : FlowRow → ℕ = λ row. row.held * value row.node in
    let f : FlowRow → ℕ = λ row. row.first * value row.node in
    let o : FlowRow → ℕ = λ row. row.own * value row.node in
    sym (sums_add a w flow) ∙ (sums_same (λ row. a row + w row) (λ row. ((c row + h row) + f row) + o row) flow
    (λ i row is. weigh_lock row.above (weight_of rows row.node) (child_sum rows (λ child. child.above) flow row) row.held row.first row.own (value row.node)
    (eqb-true (row.above + weight_of rows row.node) (child_sum rows (λ child. child.above) flow row + row.held + row.first + row.own) (balanced i row is)))
    ∙ (sums_add (λ row. (c row + h row) + f row) o flow
    ∙ ap (λ (n : ℕ). n + sum_by o flow) (sums_add (λ row. c row + h row) f flow ∙ ap (λ (n : ℕ). n + sum_by f flow) (sums_add c h flow))))

-- the balances at the releases
pub priced_releases : (rows : Rows) (flow : List FlowRow) (value : ℕ → ℕ) → AllRows (is_release_balanced rows flow) flow
    → (priced flow (child_sum rows (λ child. child.held) flow) value + priced flow (λ row. row.last) value) + priced flow (λ row. row.own) value
    ≡ priced flow (λ row. weight_of rows row.node) value
priced_releases rows flow value balanced =
    let c : FlowRow → ℕ = λ row. child_sum rows (λ child. child.held) flow row * value row.node in
    let l : FlowRow → ℕ = λ row. row.last * value row.node in
    let o : FlowRow → ℕ = λ row. row.own * value row.node in
    let w : FlowRow → ℕ = λ row. weight_of rows row.node * value row.node in
    sym (sums_add (λ row. c row + l row) o flow ∙ ap (λ (n : ℕ). n + sum_by o flow) (sums_add c l flow))
    ∙ sums_same (λ row. (c row + l row) + o row) w flow
    (λ i row is. weigh_release (child_sum rows (λ child. child.held) flow row) row.last row.own (weight_of rows row.node) (value row.node)
    (eqb-true (child_sum rows (λ child. child.held) flow row + row.last + row.own) (weight_of rows row.node) (balanced i row is)))

-- a choice, times a value
swap_choice : (b : Bool) (a x : ℕ) → cond b a 0 * x ≡ a * cond b x 0
swap_choice true a x = refl
swap_choice false a x = zero-mul x ∙ sym (mul-zero a)

-- the children's amounts times a row's value are each child's amount times its parent's value
pub child_swap : (rows : Rows) (flow : List FlowRow) (amount : FlowRow → ℕ) (value : ℕ → ℕ)
    → priced flow (child_sum rows amount flow) value ≡ sum_by (λ child. amount child * parent_value rows flow value child) flow
child_swap rows flow amount value =
    sums_same (λ row. child_sum rows amount flow row * value row.node) (λ row. sum_by (λ child. cond (is_child rows child row) (amount child) 0 * value row.node) flow) flow
    (λ i row is. sym (sums_times (λ child. cond (is_child rows child row) (amount child) 0) (value row.node) flow))
    ∙ (sums_swap (λ row child. cond (is_child rows child row) (amount child) 0 * value row.node) flow flow
    ∙ sums_same (λ child. sum_by (λ row. cond (is_child rows child row) (amount child) 0 * value row.node) flow) (λ child. amount child * parent_value rows flow value child) flow
    (λ i child is. sums_same (λ row. cond (is_child rows child row) (amount child) 0 * value row.node) (λ row. amount child * cond (is_child rows child row) (value row.node) 0) flow
    (λ j row there. swap_choice (is_child rows child row) (amount child) (value row.node))
    ∙ sums_scale (amount child) (λ row. cond (is_child rows child row) (value row.node) 0) flow))
