-- A plan has no fault exactly where it is legal.
use Rattle.std.proofs.Common.{◌≡◌, ℕ, ◌<◌, ◌≤◌, Bool, true, false, not, ◌&&◌, cond, List, length, get_or, Option, Some}
use Rattle.std.proofs.Common.{None, Result, Ok, Err, OnOk, IfErr, ◌≢◌, refl, sym, ◌∙◌, ap, inl, inr, arith, rules}
use Rattle.std.specs.List.{slice_get}
use Rattle.std.proofs.lemmas.Option.{none-some, same_Some, slice_get_within, slice_get-get_or, slice_get_past}
use Rattle.std.proofs.lemmas.Bool.{cases_lt, cases_eq, cases_Bool, both_ways, and_cases, and_left, and_right, lt-ltb, le-ltb, ltb-false, cond-true, cond-false, not-false, false_from_ne_true}
use Rattle.std.specs.Option.{option_or}
use Rattle.grove_base.specs.Numbers.{any_below, least_below, numbers_below}
use Rattle.grove_tree.specs.Trees.{Rows, parent_of, weight_of}
use Rattle.grove_tree.specs.Rules.{IsWithinLimits}
use Rattle.grove_base.proofs.Lists.{same_lists}
use Rattle.grove_base.proofs.Counting.{any_from, any_true, any_false, any_none, numbers_get, numbers_got, numbers_length, sum_term}
use Rattle.grove_plan.specs.declared.step.Step.{Step}
use Rattle.grove_plan.specs.declared.step.Step.TheVariants.{Lock, Unlock, Access}
use Rattle.grove_plan.specs.declared.fault.PlanFault.{PlanFault}
use Rattle.grove_plan.specs.declared.fault.PlanFault.TheVariants.{AccessMissing, StillHeld, Memory}
use Rattle.grove_plan.specs.declared.tally.Tally.{Tally}
use Rattle.grove_plan.specs.Plans.{locks, is_lock, held, accesses_of, IsLater, ObeysTreeProtocol, Performs, IsLegal}
use Rattle.grove_plan.specs.Slots.{accesses_before}
use Rattle.grove_plan.specs.Faults.{is_held, is_later, step_fault, steps_fault, end_fault, plan_fault_of}
use Rattle.grove_plan.specs.Tallies.{IsTally, first_holding, held_weight}
use Rattle.grove_plan.proofs.Held.{HeldAt, held_at, held_not, locks_true, locks_from, is_lock_true, access_at, find_access, accesses_length}
use Rattle.grove_plan.proofs.StepFaults.{step_is, lock_kept, lock_fine, unlock_kept, unlock_fine, access_kept, access_fine, each_kept, none_found, both_none}
use Rattle.grove_plan.proofs.StepEffects.{node_tells}
use Rattle.grove_plan.proofs.LeastFound.{any_same, least_agrees}

-- Without a fault it is legal

-- a step that is there keeps the rules
kept_at : (rows : Rows) (nodes : List ℕ) (plan : List Step) (i : ℕ) (step : Step) → steps_fault rows nodes plan (length plan) ≡ None → slice_get plan i ≡ Some step
    → step_fault rows nodes plan i (Some step) ≡ None
kept_at rows nodes plan i step none at = grind (arith, each_kept, slice_get_within, step_is)

held_some : (plan : List Step) (position : ℕ) (o : Option ℕ) → is_held plan position o ≡ true → (v : ℕ) × (o ≡ Some v) × (held plan v position ≡ true)
held_some plan position None h = absurd (cc)
held_some plan position (Some v) h = (v, refl, h)

parent_held : (rows : Rows) (plan : List Step) (i node : ℕ) → (is_later plan i && not (is_held plan i (parent_of rows node))) ≡ false → IsLater plan i
    → (parent : ℕ) × (parent_of rows node ≡ Some parent) × (held plan parent i ≡ true)
parent_held rows plan i node rule later =
    let is : is_later plan i ≡ true = any_from i (λ k. is_lock (slice_get plan k)) later.0 later.2 (ap is_lock later.3) in
    elim (and_cases (is_later plan i) (not (is_held plan i (parent_of rows node))) rule) [
      | inl first ↦ absurd (both_ways (is_later plan i) first is)
      | inr holds ↦ held_some plan i (parent_of rows node) (not-false (is_held plan i (parent_of rows node)) holds)
    ]

-- of two locks of a node the later one is at fault
no_second : (rows : Rows) (nodes : List ℕ) (plan : List Step) (i j node : ℕ) → steps_fault rows nodes plan (length plan) ≡ None
    → slice_get plan i ≡ Some (Lock node) → slice_get plan j ≡ Some (Lock node) → i < j → ⊥
no_second rows nodes plan i j node none at_i at_j lt =
    both_ways (any_below j (λ k. locks node (slice_get plan k)))
    (lock_kept rows plan j node (kept_at rows nodes plan j (Lock node) none at_j)).1
    (any_from j (λ k. locks node (slice_get plan k)) i lt (locks_from node (slice_get plan i) at_i))

end_rules : (a b : Bool) (x y : PlanFault) → cond a (Some x) (cond b (Some y) None) ≡ None → (a ≡ false) × (b ≡ false)
end_rules false false x y h = (refl, refl)
end_rules false true x y h = absurd (cc)
end_rules true b x y h = absurd (cc)

end_kept : (rows : Rows) (nodes : List ℕ) (plan : List Step) → end_fault rows nodes plan ≡ None
    → (length nodes ≤ accesses_before plan (length plan)) × (any_below (length rows) (λ node. held plan node (length plan)) ≡ false)
end_kept rows nodes plan none = grind (arith, end_rules, ltb-false)

obeys : (rows : Rows) (nodes : List ℕ) (plan : List Step) → steps_fault rows nodes plan (length plan) ≡ None
    → any_below (length rows) (λ node. held plan node (length plan)) ≡ false → ObeysTreeProtocol rows plan
obeys rows nodes plan none free = record {
  locks_nodes = λ i node at. (lock_kept rows plan i node (kept_at rows nodes plan i (Lock node) none at)).0;
  parents = λ i node at later. parent_held rows plan i node (lock_kept rows plan i node (kept_at rows nodes plan i (Lock node) none at)).2 later;
  once = grind (arith, cases_eq, cases_lt, no_second);
  unlocks_held = λ i node at. (unlock_kept rows plan i node (kept_at rows nodes plan i (Unlock node) none at)).1;
  ends_free = λ node. elim (cases_lt node (length rows)) [
    | inl lt ↦ any_false (length rows) (λ v. held plan v (length plan)) free node lt
    | inr ge ↦ held_not plan node (length plan) (λ at.
        omega (arith, (lock_kept rows plan at.at node (kept_at rows nodes plan at.at (Lock node) none at.is_lock)).0))
  ];
}

-- an access that the plan does is its own number among those done, and one of the list's
own_number : (rows : Rows) (nodes : List ℕ) (plan : List Step) (k a : ℕ) → steps_fault rows nodes plan (length plan) ≡ None
    → slice_get (accesses_of plan) k ≡ Some a → (a ≡ k) × (a < length nodes)
own_number rows nodes plan k a none is =
    let found : (q : ℕ) × (slice_get plan q ≡ Some (Access a)) × (accesses_before plan q ≡ k) = find_access plan k a is in
    let rules = access_kept nodes plan found.0 a (kept_at rows nodes plan found.0 (Access a) none found.1) in
    (rules.1 ∙ found.2, rules.0)

done_at : (rows : Rows) (nodes : List ℕ) (plan : List Step) (k : ℕ) → steps_fault rows nodes plan (length plan) ≡ None
    → k < length (accesses_of plan) → (slice_get (accesses_of plan) k ≡ Some k) × (k < length nodes)
done_at rows nodes plan k none lt =
    let is : slice_get (accesses_of plan) k ≡ Some (get_or (accesses_of plan) k 0) = slice_get-get_or (accesses_of plan) k 0 lt in
    let own : (get_or (accesses_of plan) k 0 ≡ k) × (get_or (accesses_of plan) k 0 < length nodes) = own_number rows nodes plan k (get_or (accesses_of plan) k 0) none is in
    grind (arith)

all_done : (rows : Rows) (nodes : List ℕ) (plan : List Step) → steps_fault rows nodes plan (length plan) ≡ None
    → length nodes ≤ accesses_before plan (length plan) → length (accesses_of plan) ≡ length nodes
all_done rows nodes plan none enough =
    let count : length (accesses_of plan) ≡ accesses_before plan (length plan) = accesses_length plan in
    elim (cases_lt (length nodes) (length (accesses_of plan))) [
      | inl more ↦ let less : length nodes < length nodes = (done_at rows nodes plan (length nodes) none more).1 in absurd (omega arith)
      | inr le ↦ omega arith
    ]

performs : (rows : Rows) (nodes : List ℕ) (plan : List Step) → steps_fault rows nodes plan (length plan) ≡ None
    → length nodes ≤ accesses_before plan (length plan) → Performs nodes plan
performs rows nodes plan none enough =
    let size : length (accesses_of plan) ≡ length nodes = all_done rows nodes plan none enough in
    let numbers : length (numbers_below (length nodes)) ≡ length nodes = numbers_length (length nodes) in
    record {
      in_order = grind (arith, cases_lt, done_at, numbers_get, same_lists, slice_get_past);
      while_held = λ i access node at is.
          let rules = access_kept nodes plan i access (kept_at rows nodes plan i (Access access) none at) in
          sym (ap (λ (o : Option ℕ). is_held plan i o) is) ∙ rules.2;
    }

-- a plan without a fault is legal
pub faultless_legal : (rows : Rows) (nodes : List ℕ) (plan : List Step) → plan_fault_of rows nodes plan ≡ None → IsLegal rows nodes plan
faultless_legal rows nodes plan none = grind (arith, both_none, end_kept, obeys, performs)

-- A legal plan has none

later_step : (plan : List Step) (i : ℕ) → is_later plan i ≡ true → IsLater plan i
later_step plan i is = grind (arith, any_true, is_lock_true)

legal_parent : (rows : Rows) (plan : List Step) (i node : ℕ) → ObeysTreeProtocol rows plan → slice_get plan i ≡ Some (Lock node)
    → (is_later plan i && not (is_held plan i (parent_of rows node))) ≡ false
legal_parent rows plan i node obeys at = grind (arith, and_left, and_right, cases_Bool, later_step)

legal_first : (rows : Rows) (plan : List Step) (i node : ℕ) → ObeysTreeProtocol rows plan → slice_get plan i ≡ Some (Lock node)
    → any_below i (λ k. locks node (slice_get plan k)) ≡ false
legal_first rows plan i node obeys at = grind (arith, any_none, false_from_ne_true, locks_true)

legal_step : (rows : Rows) (nodes : List ℕ) (plan : List Step) (i : ℕ) (s : Option Step) → IsLegal rows nodes plan → slice_get plan i ≡ s
    → step_fault rows nodes plan i s ≡ None
legal_step rows nodes plan i None legal at = refl
legal_step rows nodes plan i (Some (Lock node)) legal at = grind (arith, legal_first, legal_parent, lock_fine)
legal_step rows nodes plan i (Some (Unlock node)) legal at =
    let holds : held plan node i ≡ true = legal.obeys.unlocks_held i node at in
    let lock : HeldAt plan node i = held_at plan node i holds in
    unlock_fine rows plan i node (legal.obeys.locks_nodes lock.at node lock.is_lock) holds
legal_step rows nodes plan i (Some (Access a)) legal at =
    let listed : slice_get (numbers_below (length nodes)) (accesses_before plan i) ≡ Some a =
    sym (ap (λ (done : List ℕ). slice_get done (accesses_before plan i)) legal.performs.in_order) ∙ access_at plan i a at in
    let number : (a ≡ accesses_before plan i) × (accesses_before plan i < length nodes) = numbers_got (length nodes) (accesses_before plan i) a listed in
    let e : a ≡ accesses_before plan i = number.0 in
    let less : accesses_before plan i < length nodes = number.1 in
    let lt : a < length nodes = omega arith in
    let node : slice_get nodes a ≡ Some (get_or nodes a 0) = slice_get-get_or nodes a 0 lt in
    access_fine nodes plan i a lt e (ap (λ (o : Option ℕ). is_held plan i o) node ∙ legal.performs.while_held i a (get_or nodes a 0) at node)

end_none : (a b : Bool) (x y : PlanFault) → a ≡ false → b ≡ false → cond a (Some x) (cond b (Some y) None) ≡ None
end_none a b x y p q = rw (p, q) refl

-- a legal plan has no fault
pub legal_faultless : (rows : Rows) (nodes : List ℕ) (plan : List Step) → IsLegal rows nodes plan → plan_fault_of rows nodes plan ≡ None
legal_faultless rows nodes plan legal =
    let steps : steps_fault rows nodes plan (length plan) ≡ None =
    none_found rows nodes plan (length plan) (λ i lt. legal_step rows nodes plan i (slice_get plan i) legal refl) in
    let count : length (accesses_of plan) ≡ accesses_before plan (length plan) = accesses_length plan in
    grind (arith, any_none, end_none, le-ltb, numbers_length)

-- so the judge's answer says which

-- a plan whose judge finds no fault is legal
pub legal_of : (rows : Rows) (nodes : List ℕ) (plan : List Step) (answer : Result ℕ PlanFault) → OnOk answer (plan_fault_of rows nodes plan ≡ None) → OnOk answer (IsLegal rows nodes plan)
legal_of rows nodes plan (Ok sum) none = faultless_legal rows nodes plan none
legal_of rows nodes plan (Err fault) none = none

-- and one with a fault isn't
pub illegal_of : (rows : Rows) (nodes : List ℕ) (plan : List Step) (answer : Result ℕ PlanFault) → IfErr answer (λ fault. plan_fault_of rows nodes plan ≡ Some fault)
    → IfErr answer (λ fault. fault ≢ Memory → ¬ IsLegal rows nodes plan)
illegal_of rows nodes plan (Ok sum) is = is
illegal_of rows nodes plan (Err fault) is = λ other legal. none-some fault (sym (legal_faultless rows nodes plan legal) ∙ is)

-- What is wrong at the end, as a tally tells it

-- the table tells the lowest node that is held
first_same : {lengths : List ℕ} (rows : Rows) (plan : List Step) (position : ℕ) (tally : Tally) → IsTally rows lengths plan position tally
    → first_holding tally.holds.items ≡ cond (any_below (length rows) (λ node. held plan node position)) (Some (least_below (length rows) (λ node. held plan node position))) None
first_same rows plan position tally tallied = grind (arith, any_same, least_agrees, node_tells, same_Some)

still_by : (b : Bool) (n k : ℕ) → cond b (Some n) None ≡ Some k → cond b (Some (StillHeld n)) None ≡ Some (StillHeld k)
still_by true n k h = cc
still_by false n k h = absurd (none-some k h)

free_by : (b : Bool) (n : ℕ) → cond b (Some n) None ≡ None → cond b (Some (StillHeld n)) None ≡ None
free_by true n h = absurd (none-some n (sym h))
free_by false n h = refl

-- after steps without a fault the plan's fault is the end's
pub end_is : (rows : Rows) (nodes : List ℕ) (plan : List Step) → steps_fault rows nodes plan (length plan) ≡ None → plan_fault_of rows nodes plan ≡ end_fault rows nodes plan
end_is rows nodes plan none = ap (λ (first : Option PlanFault). option_or first (end_fault rows nodes plan)) none

-- an access that is missing is the plan's fault
pub missing_is : {lengths : List ℕ} (rows : Rows) (nodes : List ℕ) (plan : List Step) (tally : Tally) → steps_fault rows nodes plan (length plan) ≡ None → IsTally rows lengths plan (length plan) tally
    → tally.accesses < length nodes → plan_fault_of rows nodes plan ≡ Some (AccessMissing tally.accesses)
missing_is rows nodes plan tally none tallied lt = grind (arith, cond-true, end_is, lt-ltb)

-- what is left of the end's fault where no access is missing
held_left : {lengths : List ℕ} (rows : Rows) (nodes : List ℕ) (plan : List Step) (tally : Tally) → steps_fault rows nodes plan (length plan) ≡ None → IsTally rows lengths plan (length plan) tally
    → length nodes ≤ tally.accesses
    → plan_fault_of rows nodes plan ≡ cond (any_below (length rows) (λ node. held plan node (length plan))) (Some (StillHeld (least_below (length rows) (λ node. held plan node (length plan))))) None
held_left rows nodes plan tally none tallied enough = grind (arith, cond-false, end_is, le-ltb)

-- a node that is still held is the plan's fault where no access is missing
pub still_is : {lengths : List ℕ} (rows : Rows) (nodes : List ℕ) (plan : List Step) (tally : Tally) (node : ℕ) → steps_fault rows nodes plan (length plan) ≡ None → IsTally rows lengths plan (length plan) tally
    → length nodes ≤ tally.accesses → first_holding tally.holds.items ≡ Some node → plan_fault_of rows nodes plan ≡ Some (StillHeld node)
still_is rows nodes plan tally node none tallied enough first =
    held_left rows nodes plan tally none tallied enough
    ∙ still_by (any_below (length rows) (λ node. held plan node (length plan))) (least_below (length rows) (λ node. held plan node (length plan))) node
    (sym (first_same rows plan (length plan) tally tallied) ∙ first)

-- and else there is none
pub none_is : {lengths : List ℕ} (rows : Rows) (nodes : List ℕ) (plan : List Step) (tally : Tally) → steps_fault rows nodes plan (length plan) ≡ None → IsTally rows lengths plan (length plan) tally
    → length nodes ≤ tally.accesses → first_holding tally.holds.items ≡ None → plan_fault_of rows nodes plan ≡ None
none_is rows nodes plan tally none tallied enough first =
    held_left rows nodes plan tally none tallied enough
    ∙ free_by (any_below (length rows) (λ node. held plan node (length plan))) (least_below (length rows) (λ node. held plan node (length plan)))
    (sym (first_same rows plan (length plan) tally tallied) ∙ first)

-- where nothing weighs, nothing is held, since each node weighs something
weightless : (rows : Rows) → IsWithinLimits rows → (plan : List Step) (position : ℕ) → held_weight rows plan position ≡ 0 → (node : ℕ) → node < length rows → held plan node position ≡ false
weightless rows limits plan position none node lt = false_from_ne_true (held plan node position) (λ h.
    absurd (omega (
      arith,
      cond-true (held plan node position) (weight_of rows node) 0 h,
      limits.weighty node lt,
      sum_term (length rows) node (λ v. cond (held plan v position) (weight_of rows v) 0) lt,
    )))

-- so there is no fault there either
pub weightless_is : {lengths : List ℕ} (rows : Rows) (nodes : List ℕ) (plan : List Step) (tally : Tally) → IsWithinLimits rows → steps_fault rows nodes plan (length plan) ≡ None
    → IsTally rows lengths plan (length plan) tally → length nodes ≤ tally.accesses → tally.weight ≡ 0 → plan_fault_of rows nodes plan ≡ None
weightless_is rows nodes plan tally limits none tallied enough nothing =
    grind (arith, any_none, cond-false, held_left, weightless)
