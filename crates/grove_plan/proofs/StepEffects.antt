-- What is known of a plan at a position, and how a step changes it.
use Rattle.std.proofs.Common.{◌≡◌, ℕ, zero, suc, ◌+◌, ◌*◌, ◌<◌, ◌≤◌, Bool, true, false, not, cond, List, length, get_or, set, Option, Some, None, refl, sym, ◌∙◌, ap, inl, inr, mul-add, add-mul, zero-mul, zero-add, arith}
use Rattle.std.specs.List.{slice_get}
use Rattle.std.proofs.lemmas.List.{get_or-set_other, get_or-set_same}
use Rattle.std.proofs.lemmas.Bool.{cases_eq, cases_Bool, cond-true, cond-false, or_right, ne_eqb}
use Rattle.grove_base.specs.Numbers.{any_below, sum_below}
use Rattle.grove_tree.specs.Trees.{Rows, weight_of}
use Rattle.grove_tree.specs.Rules.{IsWithinLimits}
use Rattle.grove_base.proofs.Counting.{any_from, sum_same, sum_add, sum_term, any_miss}
use Rattle.grove_plan.specs.declared.step.Step.{Step}
use Rattle.grove_plan.specs.declared.step.Step.TheVariants.{Lock, Unlock, Access}
use Rattle.grove_plan.specs.declared.tally.Hold.{Hold}
use Rattle.grove_plan.specs.declared.tally.Hold.TheVariants.{Free, Held, Done}
use Rattle.grove_plan.specs.Plans.{locks, unlocks, held, slots_of}
use Rattle.grove_plan.specs.Faults.{is_held}
use Rattle.grove_plan.specs.Tallies.{hold_of, is_free, is_holding, holds_node, held_weight, cost_before}
use Rattle.grove_plan.proofs.Held.{HeldAt, held_at, locks_from, held_step_lock, held_step_unlock, held_step_other}

-- What the table says of a node

-- a node that is held was locked
pub held_locked : (plan : List Step) (v position : ℕ) → held plan v position ≡ true → any_below position (λ i. locks v (slice_get plan i)) ≡ true
held_locked plan v position holds =
    let at : HeldAt plan v position = held_at plan v position holds in
    any_from position (λ i. locks v (slice_get plan i)) at.at at.before (locks_from v (slice_get plan at.at) at.is_lock)

holding_by : (h a : Bool) → is_holding (cond h Held (cond a Done Free)) ≡ h
holding_by true a = refl
holding_by false true = refl
holding_by false false = refl

free_by : (h a : Bool) → (h ≡ true → a ≡ true) → is_free (cond h Held (cond a Done Free)) ≡ not a
free_by true a held = rw (held refl) refl
free_by false true held = refl
free_by false false held = refl

-- an entry of the table tells whether its node is held
pub holding_tells : (plan : List Step) (v position : ℕ) → is_holding (hold_of plan v position) ≡ held plan v position
holding_tells plan v position = holding_by (held plan v position) (any_below position (λ i. locks v (slice_get plan i)))

-- and whether it was never locked
pub free_tells : (plan : List Step) (v position : ℕ) → is_free (hold_of plan v position) ≡ not (any_below position (λ i. locks v (slice_get plan i)))
free_tells plan v position = free_by (held plan v position) (any_below position (λ i. locks v (slice_get plan i))) (held_locked plan v position)

-- the table tells of a node that may be missing whether it is held
pub node_tells : (n : ℕ) (plan : List Step) (position : ℕ) (holds : List Hold) (o : Option ℕ) → ((v : ℕ) → o ≡ Some v → v < n)
    → ((v : ℕ) → v < n → get_or holds v Free ≡ hold_of plan v position) → holds_node holds o ≡ is_held plan position o
node_tells n plan position holds None within each = refl
node_tells n plan position holds (Some v) within each = ap is_holding (each v (within v refl)) ∙ holding_tells plan v position

-- A step of another kind, or of another node, changes nothing of a node

hold_by : (h a i b : Bool) → h ≡ i → a ≡ b → cond h Held (cond a Done Free) ≡ cond i Held (cond b Done Free)
hold_by h a i b e f = cc

hold_same : (plan : List Step) (v position : ℕ) → locks v (slice_get plan position) ≡ false → unlocks v (slice_get plan position) ≡ false
    → hold_of plan v (suc position) ≡ hold_of plan v position
hold_same plan v position no_lock no_unlock = grind (arith, any_miss, held_step_other, hold_by)

hold_lock : (plan : List Step) (v position : ℕ) → slice_get plan position ≡ Some (Lock v) → hold_of plan v (suc position) ≡ Held
hold_lock plan v position at = grind (arith, cond-true, held_step_lock)

hold_unlock : (plan : List Step) (v position : ℕ) → slice_get plan position ≡ Some (Unlock v) → held plan v position ≡ true → hold_of plan v (suc position) ≡ Done
hold_unlock plan v position at holds = grind (arith, cond-false, cond-true, held_locked, held_step_unlock, or_right)

-- what a step is not
not_locked : (v w : ℕ) (step : Option Step) → step ≡ Some (Lock w) → (v ≡ w → ⊥) → locks v step ≡ false
not_locked v w step at other = rw at (ne_eqb w v (λ e. other (sym e)))

not_unlocked : (v w : ℕ) (step : Option Step) → step ≡ Some (Unlock w) → (v ≡ w → ⊥) → unlocks v step ≡ false
not_unlocked v w step at other = rw at (ne_eqb w v (λ e. other (sym e)))

lock_unlocks : (v w : ℕ) (step : Option Step) → step ≡ Some (Lock w) → unlocks v step ≡ false
lock_unlocks v w step at = rw at refl

unlock_locks : (v w : ℕ) (step : Option Step) → step ≡ Some (Unlock w) → locks v step ≡ false
unlock_locks v w step at = rw at refl

access_locks : (v a : ℕ) (step : Option Step) → step ≡ Some (Access a) → locks v step ≡ false
access_locks v a step at = rw at refl

access_unlocks : (v a : ℕ) (step : Option Step) → step ≡ Some (Access a) → unlocks v step ≡ false
access_unlocks v a step at = rw at refl

-- The table after a step

-- a lock makes its node held
pub each_locked : (n : ℕ) (plan : List Step) (position u : ℕ) (holds : List Hold) → slice_get plan position ≡ Some (Lock u) → u < length holds
    → ((v : ℕ) → v < n → get_or holds v Free ≡ hold_of plan v position) → (v : ℕ) → v < n → get_or (set holds u Held) v Free ≡ hold_of plan v (suc position)
each_locked n plan position u holds at within each v lt =
    grind (arith, cases_eq, get_or-set_other, get_or-set_same, hold_lock, hold_same, lock_unlocks, not_locked)

-- an unlock lets its node go
pub each_unlocked : (n : ℕ) (plan : List Step) (position u : ℕ) (holds : List Hold) → slice_get plan position ≡ Some (Unlock u) → held plan u position ≡ true → u < length holds
    → ((v : ℕ) → v < n → get_or holds v Free ≡ hold_of plan v position) → (v : ℕ) → v < n → get_or (set holds u Done) v Free ≡ hold_of plan v (suc position)
each_unlocked n plan position u holds at held within each v lt =
    grind (arith, cases_eq, get_or-set_other, get_or-set_same, hold_same, hold_unlock, not_unlocked, unlock_locks)

-- an access leaves the table
pub each_accessed : (n : ℕ) (plan : List Step) (position a : ℕ) (holds : List Hold) → slice_get plan position ≡ Some (Access a)
    → ((v : ℕ) → v < n → get_or holds v Free ≡ hold_of plan v position) → (v : ℕ) → v < n → get_or holds v Free ≡ hold_of plan v (suc position)
each_accessed n plan position a holds at each v lt = grind (arith, access_locks, access_unlocks, hold_same)

-- The weight held after a step

-- sums of functions that differ at one number
pub sum_more : (n u d : ℕ) (f g : ℕ → ℕ) → u < n → ((v : ℕ) → v < n → (v ≡ u → ⊥) → g v ≡ f v) → g u ≡ f u + d → sum_below n g ≡ sum_below n f + d
sum_more zero u d f g lt same more = absurd (omega arith)
sum_more (suc n) u d f g lt same more = elim (cases_eq u n) [
  | inl e ↦ grind (arith, sum_same)
  | inr ne ↦ let rest : sum_below n g ≡ sum_below n f + d = sum_more n u d f g (omega arith) (λ v less other. same v (omega arith) other) more in
      let here : g n ≡ f n = same n (omega arith) (λ is. ne (sym is)) in omega arith
]

-- a node's share of the weight held
abbrev share : Rows → List Step → ℕ → ℕ → ℕ
share rows plan position v = cond (held plan v position) (weight_of rows v) 0

share_same : (rows : Rows) (plan : List Step) (v position : ℕ) → locks v (slice_get plan position) ≡ false → unlocks v (slice_get plan position) ≡ false
    → share rows plan (suc position) v ≡ share rows plan position v
share_same rows plan v position no_lock no_unlock = ap (λ (b : Bool). cond b (weight_of rows v) 0) (held_step_other plan v position no_lock no_unlock)

share_held : (rows : Rows) (plan : List Step) (v position : ℕ) → held plan v position ≡ true → share rows plan position v ≡ weight_of rows v
share_held rows plan v position h = cond-true (held plan v position) (weight_of rows v) 0 h

share_free : (rows : Rows) (plan : List Step) (v position : ℕ) → held plan v position ≡ false → share rows plan position v ≡ 0
share_free rows plan v position h = cond-false (held plan v position) (weight_of rows v) 0 h

-- a lock adds its node's weight
pub weight_locked : (rows : Rows) (plan : List Step) (position u : ℕ) → slice_get plan position ≡ Some (Lock u) → u < length rows → held plan u position ≡ false
    → held_weight rows plan (suc position) ≡ held_weight rows plan position + weight_of rows u
weight_locked rows plan position u at lt free =
    sum_more (length rows) u (weight_of rows u) (share rows plan position) (share rows plan (suc position)) lt
    (λ v less other. share_same rows plan v position (not_locked v u (slice_get plan position) at other) (lock_unlocks v u (slice_get plan position) at))
    (let none : share rows plan position u ≡ 0 = share_free rows plan u position free in
    let some : share rows plan (suc position) u ≡ weight_of rows u = share_held rows plan u (suc position) (held_step_lock plan u position at) in omega arith)

-- an unlock takes it away
pub weight_unlocked : (rows : Rows) (plan : List Step) (position u : ℕ) → slice_get plan position ≡ Some (Unlock u) → u < length rows → held plan u position ≡ true
    → held_weight rows plan position ≡ held_weight rows plan (suc position) + weight_of rows u
weight_unlocked rows plan position u at lt holds =
    sum_more (length rows) u (weight_of rows u) (share rows plan (suc position)) (share rows plan position) lt
    (λ v less other. sym (share_same rows plan v position (unlock_locks v u (slice_get plan position) at) (not_unlocked v u (slice_get plan position) at other)))
    (let none : share rows plan (suc position) u ≡ 0 = share_free rows plan u (suc position) (held_step_unlock plan u position at) in
    let some : share rows plan position u ≡ weight_of rows u = share_held rows plan u position holds in omega arith)

-- an access leaves it
pub weight_accessed : (rows : Rows) (plan : List Step) (position a : ℕ) → slice_get plan position ≡ Some (Access a) → held_weight rows plan (suc position) ≡ held_weight rows plan position
weight_accessed rows plan position a at = grind (arith, access_locks, access_unlocks, share_same, sum_same)

-- The cost after a step

-- the slots taken before a position while a node is held
abbrev held_slots : List ℕ → List Step → ℕ → ℕ → ℕ
held_slots lengths plan v position = sum_below position (λ i. cond (held plan v i) (slots_of lengths (slice_get plan i)) 0)

nothing_more : (b : Bool) (x n : ℕ) → x ≡ 0 → cond b x 0 + n ≡ n
nothing_more true x n none = omega arith
nothing_more false x n none = omega arith

-- a step that takes no slots costs nothing
pub cost_same : (rows : Rows) (lengths : List ℕ) (plan : List Step) (position : ℕ) → slots_of lengths (slice_get plan position) ≡ 0
    → cost_before rows lengths plan (suc position) ≡ cost_before rows lengths plan position
cost_same rows lengths plan position none = grind (arith, nothing_more, sum_same)

part_more : (h : Bool) (w x n : ℕ) → w * (cond h x 0 + n) ≡ w * n + cond h w 0 * x
part_more true w x n = let e : w * (x + n) ≡ w * x + w * n = mul-add w x n in omega arith
part_more false w x n = let e : w * (0 + n) ≡ w * n = ap (λ (k : ℕ). w * k) (zero-add n) in let z : 0 * x ≡ 0 = zero-mul x in omega arith

-- a factor behind each term
sum_times : (n c : ℕ) (f : ℕ → ℕ) → sum_below n (λ v. f v * c) ≡ sum_below n f * c
sum_times zero c f = sym (zero-mul c)
sum_times (suc n) c f = grind (arith, add-mul, sum_times n c f)

-- a step costs the weight held for each slot that it takes
pub cost_accessed : (rows : Rows) (lengths : List ℕ) (plan : List Step) (position : ℕ)
    → cost_before rows lengths plan (suc position) ≡ cost_before rows lengths plan position + held_weight rows plan position * slots_of lengths (slice_get plan position)
cost_accessed rows lengths plan position =
    let slots : ℕ = slots_of lengths (slice_get plan position) in
    sum_same (length rows) (λ v. weight_of rows v * held_slots lengths plan v (suc position)) (λ v. weight_of rows v * held_slots lengths plan v position + share rows plan position v * slots)
    (λ v less. part_more (held plan v position) (weight_of rows v) slots (held_slots lengths plan v position))
    ∙ (sum_add (length rows) (λ v. weight_of rows v * held_slots lengths plan v position) (λ v. share rows plan position v * slots)
    ∙ ap (λ (n : ℕ). cost_before rows lengths plan position + n) (sum_times (length rows) slots (share rows plan position)))

-- How much may be held

sum_small : (n : ℕ) (f : ℕ → ℕ) → ((v : ℕ) → f v ≤ 1000) → sum_below n f ≤ 1000 * n
sum_small zero f small = omega arith
sum_small (suc n) f small = let here : f n ≤ 1000 = small n in let rest : sum_below n f ≤ 1000 * n = sum_small n f small in omega arith

share_small : (rows : Rows) (plan : List Step) (position v : ℕ) → weight_of rows v ≤ 1000 → share rows plan position v ≤ 1000
share_small rows plan position v light = grind (arith, cases_Bool, share_free, share_held)

-- no more is held than all nodes of a tree weigh
pub weight_small : (rows : Rows) (plan : List Step) (position : ℕ) → IsWithinLimits rows → held_weight rows plan position ≤ 4096000
weight_small rows plan position limits = grind (arith, share_small, sum_small)

-- a held node's weight is part of it
pub weight_part : (rows : Rows) (plan : List Step) (position u : ℕ) → u < length rows → held plan u position ≡ true → weight_of rows u ≤ held_weight rows plan position
weight_part rows plan position u lt holds =
    omega (arith, share_held rows plan u position holds, sum_term (length rows) u (share rows plan position) lt)
