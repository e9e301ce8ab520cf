-- A tally: what it tells of the next step, and that it goes on with it.
use Rattle.std.proofs.Common.{◌≡◌, ℕ, suc, ◌+◌, ◌-◌, ◌*◌, ◌<◌, ◌≤◌, Bool, true, false, not, ◌&&◌, ◌||◌, List, length}
use Rattle.std.proofs.Common.{get_or, set, replicate, Option, Some, None, refl, sym, ◌∙◌, ap, add-one, mul-le-mul_left}
use Rattle.std.proofs.Common.{arith, rules}
use Rattle.std.specs.Prelude.{slice_index}
use Rattle.std.specs.List.{slice_get}
use Rattle.std.proofs.lemmas.List.{length-set, get_or-replicate, length-replicate}
use Rattle.std.proofs.lemmas.Bool.{and_left, and_right, and_from, both_ways, false_from_ne_true}
use Rattle.grove_base.specs.Numbers.{any_below}
use Rattle.grove_tree.specs.Trees.{Rows, IsTree, parent_of, weight_of}
use Rattle.grove_tree.specs.Rules.{IsWithinLimits}
use Rattle.grove_base.proofs.Counting.{count_hit, count_miss, sum_zero}
use Rattle.grove_tree.proofs.Above.{parent_lt}
use Rattle.grove_access.specs.ListFaults.{AreLengths}
use Rattle.grove_access.proofs.Slots.{few_slots}
use Rattle.grove_plan.specs.declared.step.Step.{Step}
use Rattle.grove_plan.specs.declared.step.Step.TheVariants.{Lock, Unlock, Access}
use Rattle.grove_plan.specs.declared.fault.PlanFault.{PlanFault}
use Rattle.grove_plan.specs.declared.tally.Hold.TheVariants.{Free, Held, Done}
use Rattle.grove_plan.specs.declared.tally.Tally.{Tally}
use Rattle.grove_plan.specs.Plans.{locks, is_lock, is_access, held, slots_of}
use Rattle.grove_plan.specs.Faults.{is_held, is_later, step_fault}
use Rattle.grove_plan.specs.Tallies.{is_free, is_holding, holds_node, held_weight, cost_before, IsTally}
use Rattle.grove_plan.proofs.StepFaults.{step_is, lock_kept, unlock_kept}
use Rattle.grove_plan.proofs.StepEffects.{held_locked, holding_tells, free_tells, node_tells, each_locked, each_unlocked, each_accessed, weight_locked, weight_unlocked, weight_accessed, weight_small, weight_part, cost_same, cost_accessed}
use Rattle.std.proofs.lemmas.Option.{slice_get-get_or}

-- what is read at a position of the plan stands there, whatever is read beyond its end
read_or : (plan : List Step) (position : ℕ) (step d : Step) → position < length plan → get_or plan position d ≡ step → slice_get plan position ≡ Some step
read_or plan position step d within read = slice_get-get_or plan position d within ∙ ap (λ s. Some s) read

-- The step at a position is judged by what is read there

-- the fault of the step that is read is that of the position
pub fault_read : (rows : Rows) (nodes : List ℕ) (plan : List Step) (position : ℕ) (step d : Step) (fault : Option PlanFault) → position < length plan → get_or plan position d ≡ step
    → step_fault rows nodes plan position (Some step) ≡ fault → fault ≡ step_fault rows nodes plan position (slice_get plan position)
fault_read rows nodes plan position step d fault within read judged =
    sym (step_is rows nodes plan position step (read_or plan position step d within read) ∙ judged)

-- and where the position has none, the step that is read has none
pub kept_read : (rows : Rows) (nodes : List ℕ) (plan : List Step) (position : ℕ) (step d : Step) → position < length plan → get_or plan position d ≡ step
    → step_fault rows nodes plan position (slice_get plan position) ≡ None → step_fault rows nodes plan position (Some step) ≡ None
kept_read rows nodes plan position step d within read kept = sym (step_is rows nodes plan position step (read_or plan position step d within read)) ∙ kept

-- What the table tells

flip : (a b : Bool) → b ≡ not a → a ≡ not b
flip true b e = rw e refl
flip false b e = rw e refl

-- the table tells whether a node was locked before
pub locked_by : {lengths : List ℕ} (rows : Rows) (plan : List Step) (position node : ℕ) (b : Bool) (tally : Tally) → IsTally rows lengths plan position tally → node < length rows
    → is_free (get_or tally.holds.items node Free) ≡ b → any_below position (λ i. locks node (slice_get plan i)) ≡ not b
locked_by rows plan position node b tally tallied lt test = grind (arith, flip, free_tells)

-- and whether it is held
pub held_by : {lengths : List ℕ} (rows : Rows) (plan : List Step) (position node : ℕ) (b : Bool) (tally : Tally) → IsTally rows lengths plan position tally → node < length rows
    → is_holding (get_or tally.holds.items node Free) ≡ b → held plan node position ≡ b
held_by rows plan position node b tally tallied lt test = sym (holding_tells plan node position) ∙ sym (ap is_holding (tallied.each node lt)) ∙ test

-- a parent is held just where the table says so
pub parent_by : {lengths : List ℕ} (rows : Rows) (plan : List Step) (position node : ℕ) (tally : Tally) → IsTree rows → IsTally rows lengths plan position tally → node < length rows
    → holds_node tally.holds.items (parent_of rows node) ≡ is_held plan position (parent_of rows node)
parent_by rows plan position node tally tree tallied lt = grind (arith, node_tells, parent_lt)

-- where the table doesn't have the parent held, a later lock lacks it
pub parent_missed : {lengths : List ℕ} (rows : Rows) (plan : List Step) (position node : ℕ) (tally : Tally) → IsTree rows → IsTally rows lengths plan position tally → node < length rows
    → tally.later ≡ true → holds_node tally.holds.items (parent_of rows node) ≡ false → (is_later plan position && not (is_held plan position (parent_of rows node))) ≡ true
parent_missed rows plan position node tally tree tallied lt later free = grind (arith, and_from, parent_by)

-- where it has, none is lacking
pub parent_kept : {lengths : List ℕ} (rows : Rows) (plan : List Step) (position node : ℕ) (tally : Tally) → IsTree rows → IsTally rows lengths plan position tally → node < length rows
    → holds_node tally.holds.items (parent_of rows node) ≡ true → (is_later plan position && not (is_held plan position (parent_of rows node))) ≡ false
parent_kept rows plan position node tally tree tallied lt holds = grind (arith, and_right, parent_by)

-- the first lock needs no parent
pub first_kept : {lengths : List ℕ} (rows : Rows) (plan : List Step) (position node : ℕ) (tally : Tally) → IsTally rows lengths plan position tally
    → tally.later ≡ false → (is_later plan position && not (is_held plan position (parent_of rows node))) ≡ false
first_kept rows plan position node tally tallied first = grind (arith, and_left)

-- whether the node of an access is held
pub access_by : (plan : List Step) (position : ℕ) (o : Option ℕ) (node : ℕ) (b : Bool) → o ≡ Some node → held plan node position ≡ b → is_held plan position o ≡ b
access_by plan position o node b is test = rw is test

-- A tally goes on

-- a node that no step locked is not held
free_held : (plan : List Step) (v position : ℕ) → any_below position (λ i. locks v (slice_get plan i)) ≡ false → held plan v position ≡ false
free_held plan v position none = false_from_ne_true (held plan v position) (λ holds. both_ways (any_below position (λ i. locks v (slice_get plan i))) none (held_locked plan v position holds))

-- before the first step
pub tally_starts : {lengths : List ℕ} (rows : Rows) (plan : List Step) (tally : Tally) → tally.holds.items ≡ replicate (length rows) Free → tally.later ≡ false
    → tally.accesses ≡ 0 → tally.weight ≡ 0 → tally.cost ≡ 0 → IsTally rows lengths plan 0 tally
tally_starts rows plan tally holds later accesses weight cost =
    grind (arith, get_or-replicate, length-replicate, sum_zero)

later_lock : (plan : List Step) (position u : ℕ) → slice_get plan position ≡ Some (Lock u) → is_later plan (suc position) ≡ true
later_lock plan position u at = ap (λ (s : Option Step). is_lock s || is_later plan position) at

later_unlock : (plan : List Step) (position u : ℕ) → slice_get plan position ≡ Some (Unlock u) → is_later plan (suc position) ≡ is_later plan position
later_unlock plan position u at = ap (λ (s : Option Step). is_lock s || is_later plan position) at

later_access : (plan : List Step) (position a : ℕ) → slice_get plan position ≡ Some (Access a) → is_later plan (suc position) ≡ is_later plan position
later_access plan position a at = ap (λ (s : Option Step). is_lock s || is_later plan position) at

lock_access : (step : Option Step) (u : ℕ) → step ≡ Some (Lock u) → is_access step ≡ false
lock_access step u at = rw at refl

unlock_access : (step : Option Step) (u : ℕ) → step ≡ Some (Unlock u) → is_access step ≡ false
unlock_access step u at = rw at refl

lock_slots : (lengths : List ℕ) (step : Option Step) (u : ℕ) → step ≡ Some (Lock u) → slots_of lengths step ≡ 0
lock_slots lengths step u at = rw at refl

unlock_slots : (lengths : List ℕ) (step : Option Step) (u : ℕ) → step ≡ Some (Unlock u) → slots_of lengths step ≡ 0
unlock_slots lengths step u at = rw at refl

-- what an access costs at most
pub part_small : (weight slots : ℕ) → weight ≤ 4096000 → slots ≤ 1000 → weight * slots ≤ 4096000000
part_small weight slots light few = let le : weight * slots ≤ weight * 1000 = mul-le-mul_left weight few in omega arith

access_access : (step : Option Step) (a : ℕ) → step ≡ Some (Access a) → is_access step ≡ true
access_access step a at = rw at refl

next_locked : {lengths : List ℕ} (rows : Rows) (plan : List Step) (position u : ℕ) (tally after : Tally) → IsTally rows lengths plan position tally → slice_get plan position ≡ Some (Lock u)
    → (u < length rows) × (any_below position (λ i. locks u (slice_get plan i)) ≡ false) → after.holds.items ≡ set tally.holds.items u Held → after.later ≡ true → after.accesses ≡ tally.accesses
    → after.weight ≡ tally.weight + weight_of rows u → after.cost ≡ tally.cost → IsTally rows lengths plan (suc position) after
next_locked {lengths} rows plan position u tally after tallied at kept holds later accesses weight cost =
    let nodes : length tally.holds.items ≡ length rows = tallied.nodes in
    let lt : u < length rows = kept.0 in
    let quick : slots_of lengths (slice_get plan position) ≡ 0 = lock_slots lengths (slice_get plan position) u at in
    grind (arith, cost_same, count_miss, each_locked, free_held, later_lock, length-set, lock_access, weight_locked)

next_unlocked : {lengths : List ℕ} (rows : Rows) (plan : List Step) (position u : ℕ) (tally after : Tally) → IsTally rows lengths plan position tally → slice_get plan position ≡ Some (Unlock u)
    → (u < length rows) × (held plan u position ≡ true) → after.holds.items ≡ set tally.holds.items u Done → after.later ≡ tally.later → after.accesses ≡ tally.accesses
    → after.weight ≡ tally.weight - weight_of rows u → after.cost ≡ tally.cost → IsTally rows lengths plan (suc position) after
next_unlocked {lengths} rows plan position u tally after tallied at kept holds later accesses weight cost =
    let nodes : length tally.holds.items ≡ length rows = tallied.nodes in
    let lt : u < length rows = kept.0 in
    let quick : slots_of lengths (slice_get plan position) ≡ 0 = unlock_slots lengths (slice_get plan position) u at in
    grind (arith, cost_same, count_miss, each_unlocked, later_unlock, length-set, unlock_access, weight_unlocked)

next_accessed : {lengths : List ℕ} (rows : Rows) (plan : List Step) (position a : ℕ) (tally after : Tally) → IsWithinLimits rows → IsTally rows lengths plan position tally → slice_get plan position ≡ Some (Access a)
    → after.holds.items ≡ tally.holds.items → after.later ≡ tally.later → after.accesses ≡ tally.accesses + 1
    → after.weight ≡ tally.weight → AreLengths lengths → after.cost ≡ tally.cost + tally.weight * slice_index lengths a → IsTally rows lengths plan (suc position) after
next_accessed {lengths} rows plan position a tally after limits tallied at holds later accesses weight are cost =
    let access : is_access (slice_get plan position) ≡ true = access_access (slice_get plan position) a at in
    let light : held_weight rows plan position ≤ 4096000 = weight_small rows plan position limits in
    let was : tally.weight ≡ held_weight rows plan position = tallied.weight in
    let spent : tally.cost ≡ cost_before rows lengths plan position = tallied.cost in
    let slots : slots_of lengths (slice_get plan position) ≡ slice_index lengths a = ap (slots_of lengths) at in
    let costs : cost_before rows lengths plan (suc position) ≡ cost_before rows lengths plan position + held_weight rows plan position * slots_of lengths (slice_get plan position) =
    cost_accessed rows lengths plan position in
    grind (arith, add-one, count_hit, each_accessed, few_slots, later_access, part_small, weight_accessed)

-- The same as the code reads a step and writes the table

-- a tally that takes a lock has followed the plan past it
pub tally_locked : {lengths : List ℕ} (rows : Rows) (nodes : List ℕ) (plan : List Step) (position u i : ℕ) (d : Step) (tally after : Tally) → position < length plan → get_or plan position d ≡ Lock u → i ≡ u
    → IsTally rows lengths plan position tally → step_fault rows nodes plan position (slice_get plan position) ≡ None → after.holds.items ≡ set tally.holds.items i Held → after.later ≡ true
    → after.accesses ≡ tally.accesses → after.weight ≡ tally.weight + weight_of rows u → after.cost ≡ tally.cost → IsTally rows lengths plan (position + 1) after
tally_locked rows nodes plan position u i d tally after within read is tallied kept holds later accesses weight cost =
    let rules = lock_kept rows plan position u (kept_read rows nodes plan position (Lock u) d within read kept) in
    rw add-one (next_locked rows plan position u tally after tallied (read_or plan position (Lock u) d within read) (rules.0, rules.1)
    (holds ∙ ap (λ (n : ℕ). set tally.holds.items n Held) is) later accesses weight cost)

-- and so has one that takes an unlock
pub tally_unlocked : {lengths : List ℕ} (rows : Rows) (nodes : List ℕ) (plan : List Step) (position u i : ℕ) (d : Step) (tally after : Tally) → position < length plan → get_or plan position d ≡ Unlock u → i ≡ u
    → IsTally rows lengths plan position tally → step_fault rows nodes plan position (slice_get plan position) ≡ None → after.holds.items ≡ set tally.holds.items i Done → after.later ≡ tally.later
    → after.accesses ≡ tally.accesses → after.weight ≡ tally.weight - weight_of rows u → after.cost ≡ tally.cost → IsTally rows lengths plan (position + 1) after
tally_unlocked rows nodes plan position u i d tally after within read is tallied kept holds later accesses weight cost =
    rw add-one (next_unlocked rows plan position u tally after tallied (read_or plan position (Unlock u) d within read)
    (unlock_kept rows plan position u (kept_read rows nodes plan position (Unlock u) d within read kept))
    (holds ∙ ap (λ (n : ℕ). set tally.holds.items n Done) is) later accesses weight cost)

-- and one that takes an access
pub tally_accessed : {lengths : List ℕ} (rows : Rows) (plan : List Step) (position a : ℕ) (d : Step) (tally after : Tally) → IsWithinLimits rows → position < length plan → get_or plan position d ≡ Access a
    → IsTally rows lengths plan position tally → after.holds.items ≡ tally.holds.items → after.later ≡ tally.later → after.accesses ≡ tally.accesses + 1
    → after.weight ≡ tally.weight → AreLengths lengths → after.cost ≡ tally.cost + tally.weight * slice_index lengths a → IsTally rows lengths plan (position + 1) after
tally_accessed rows plan position a d tally after limits within read tallied holds later accesses weight are cost =
    rw add-one (next_accessed rows plan position a tally after limits tallied (read_or plan position (Access a) d within read) holds later accesses weight are cost)

-- What the tally holds is in range

-- the weight held fits its type
pub tallied_weight : {lengths : List ℕ} (rows : Rows) (plan : List Step) (position : ℕ) (tally : Tally) → IsWithinLimits rows → IsTally rows lengths plan position tally → tally.weight ≤ 4096000
tallied_weight rows plan position tally limits tallied = grind (arith, weight_small)

-- and a held node's weight is part of it
pub tallied_part : {lengths : List ℕ} (rows : Rows) (nodes : List ℕ) (plan : List Step) (position u : ℕ) (d : Step) (tally : Tally) → position < length plan → get_or plan position d ≡ Unlock u
    → IsTally rows lengths plan position tally → step_fault rows nodes plan position (slice_get plan position) ≡ None → weight_of rows u ≤ tally.weight
tallied_part rows nodes plan position u d tally within read tallied kept =
    let rules = unlock_kept rows plan position u (kept_read rows nodes plan position (Unlock u) d within read kept) in
    omega (arith, tallied.weight, weight_part rows plan position u rules.0 rules.1)
