-- The rules of single steps: what the first fault of a step says, and when there is none.
use Rattle.std.proofs.Common.{◌≡◌, ℕ, zero, suc, ◌<◌, ◌≤◌, Bool, true, false, not, ◌&&◌, ltb, cond, List, length}
use Rattle.std.proofs.Common.{Option, Some, None, refl, ◌∙◌, ap, inl, inr, arith}
use Rattle.std.specs.List.{slice_get}
use Rattle.std.proofs.lemmas.Bool.{cases_lt, lt-ltb, le-ltb, ltb-true, eqb-true, ne_eqb, eq-eqb, not-false}
use Rattle.std.specs.Option.{option_or}
use Rattle.grove_base.specs.Numbers.{any_below}
use Rattle.grove_tree.specs.Trees.{Rows, parent_of}
use Rattle.grove_plan.specs.declared.step.Step.{Step}
use Rattle.grove_plan.specs.declared.fault.PlanFault.{PlanFault}
use Rattle.grove_plan.specs.declared.fault.PlanFault.TheVariants.{Strange, Relock, ParentNotHeld, NotHeld, WrongAccess, AccessNotHeld}
use Rattle.grove_plan.specs.Plans.{locks, held}
use Rattle.grove_plan.specs.Slots.{accesses_before}
use Rattle.grove_plan.specs.Faults.{is_held, is_later, lock_fault, unlock_fault, access_fault, step_fault, steps_fault}

-- The step at a position is judged by what it is

-- the step that stands at a position is judged there
pub step_is : (rows : Rows) (nodes : List ℕ) (plan : List Step) (position : ℕ) (step : Step) → slice_get plan position ≡ Some step
    → step_fault rows nodes plan position (slice_get plan position) ≡ step_fault rows nodes plan position (Some step)
step_is rows nodes plan position step at = ap (λ (s : Option Step). step_fault rows nodes plan position s) at

-- A choice of faults by three tests, and by two: each way in

first_fault : (a b c : Bool) (x y z : PlanFault) → a ≡ false → cond (not a) (Some x) (cond b (Some y) (cond c (Some z) None)) ≡ Some x
first_fault a b c x y z p = rw p refl

second_fault : (a b c : Bool) (x y z : PlanFault) → a ≡ true → b ≡ true → cond (not a) (Some x) (cond b (Some y) (cond c (Some z) None)) ≡ Some y
second_fault a b c x y z p q = rw (p, q) refl

third_fault : (a b c : Bool) (x y z : PlanFault) → a ≡ true → b ≡ false → c ≡ true → cond (not a) (Some x) (cond b (Some y) (cond c (Some z) None)) ≡ Some z
third_fault a b c x y z p q r = rw (p, q, r) refl

no_fault : (a b c : Bool) (x y z : PlanFault) → a ≡ true → b ≡ false → c ≡ false → cond (not a) (Some x) (cond b (Some y) (cond c (Some z) None)) ≡ None
no_fault a b c x y z p q r = rw (p, q, r) refl

-- and the way out
rules_kept : (a b c : Bool) (x y z : PlanFault) → cond (not a) (Some x) (cond b (Some y) (cond c (Some z) None)) ≡ None → (a ≡ true) × (b ≡ false) × (c ≡ false)
rules_kept true false false x y z h = (refl, refl, refl)
rules_kept true false true x y z h = absurd (cc)
rules_kept true true c x y z h = absurd (cc)
rules_kept false b c x y z h = absurd (cc)

two_kept : (a b : Bool) (x y : PlanFault) → cond (not a) (Some x) (cond b (Some y) None) ≡ None → (a ≡ true) × (b ≡ false)
two_kept true false x y h = (refl, refl)
two_kept true true x y h = absurd (cc)
two_kept false b x y h = absurd (cc)

-- A lock

-- the lock of a number that is no node is strange
pub lock_strange : (rows : Rows) (plan : List Step) (position node : ℕ) → length rows ≤ node → lock_fault rows plan position node ≡ Some (Strange position)
lock_strange rows plan position node ge = grind (arith, first_fault, le-ltb)

-- the lock of a node that was locked is a relock
pub lock_again : (rows : Rows) (plan : List Step) (position node : ℕ) → node < length rows → any_below position (λ i. locks node (slice_get plan i)) ≡ true
    → lock_fault rows plan position node ≡ Some (Relock position)
lock_again rows plan position node lt before = second_fault (ltb node (length rows)) (any_below position (λ i. locks node (slice_get plan i))) _ _ _ _ (lt-ltb node (length rows) lt) before

-- a later lock without the parent held lacks it
pub lock_alone : (rows : Rows) (plan : List Step) (position node : ℕ) → node < length rows → any_below position (λ i. locks node (slice_get plan i)) ≡ false
    → (is_later plan position && not (is_held plan position (parent_of rows node))) ≡ true → lock_fault rows plan position node ≡ Some (ParentNotHeld position)
lock_alone rows plan position node lt before parent = grind (arith, lt-ltb, third_fault)

-- any other lock has no fault
pub lock_fine : (rows : Rows) (plan : List Step) (position node : ℕ) → node < length rows → any_below position (λ i. locks node (slice_get plan i)) ≡ false
    → (is_later plan position && not (is_held plan position (parent_of rows node))) ≡ false → lock_fault rows plan position node ≡ None
lock_fine rows plan position node lt before parent = grind (arith, lt-ltb, no_fault)

-- a lock without a fault keeps the three rules
pub lock_kept : (rows : Rows) (plan : List Step) (position node : ℕ) → lock_fault rows plan position node ≡ None
    → (node < length rows) × (any_below position (λ i. locks node (slice_get plan i)) ≡ false) × ((is_later plan position && not (is_held plan position (parent_of rows node))) ≡ false)
lock_kept rows plan position node none = grind (arith, ltb-true, rules_kept)

-- An unlock

-- the unlock of a number that is no node is strange
pub unlock_strange : (rows : Rows) (plan : List Step) (position node : ℕ) → length rows ≤ node → unlock_fault rows plan position node ≡ Some (Strange position)
unlock_strange rows plan position node ge = rw (le-ltb node (length rows) ge) refl

-- the unlock of a node that isn't held is at fault
pub unlock_unheld : (rows : Rows) (plan : List Step) (position node : ℕ) → node < length rows → held plan node position ≡ false → unlock_fault rows plan position node ≡ Some (NotHeld position)
unlock_unheld rows plan position node lt free = grind (arith, lt-ltb, second_fault)

-- any other unlock has no fault
pub unlock_fine : (rows : Rows) (plan : List Step) (position node : ℕ) → node < length rows → held plan node position ≡ true → unlock_fault rows plan position node ≡ None
unlock_fine rows plan position node lt holds = grind (arith, lt-ltb, no_fault)

-- an unlock without a fault is of a node that is held
pub unlock_kept : (rows : Rows) (plan : List Step) (position node : ℕ) → unlock_fault rows plan position node ≡ None → (node < length rows) × (held plan node position ≡ true)
unlock_kept rows plan position node none = grind (arith, ltb-true, not-false, two_kept)

-- An access

-- an access of a number that is none of the list's is strange
pub access_strange : (nodes : List ℕ) (plan : List Step) (position access : ℕ) → length nodes ≤ access → access_fault nodes plan position access ≡ Some (Strange position)
access_strange nodes plan position access ge = grind (arith, first_fault, le-ltb)

-- an access out of turn is wrong
pub access_wrong : (nodes : List ℕ) (plan : List Step) (position access : ℕ) → access < length nodes → (access ≡ accesses_before plan position → ⊥)
    → access_fault nodes plan position access ≡ Some (WrongAccess position)
access_wrong nodes plan position access lt other = grind (arith, lt-ltb, ne_eqb, second_fault)

-- an access of a node that isn't held is at fault
pub access_unheld : (nodes : List ℕ) (plan : List Step) (position access : ℕ) → access < length nodes → access ≡ accesses_before plan position
    → is_held plan position (slice_get nodes access) ≡ false → access_fault nodes plan position access ≡ Some (AccessNotHeld position)
access_unheld nodes plan position access lt next free = grind (arith, eq-eqb, lt-ltb, third_fault)

-- any other access has no fault
pub access_fine : (nodes : List ℕ) (plan : List Step) (position access : ℕ) → access < length nodes → access ≡ accesses_before plan position
    → is_held plan position (slice_get nodes access) ≡ true → access_fault nodes plan position access ≡ None
access_fine nodes plan position access lt next holds = grind (arith, eq-eqb, lt-ltb, no_fault)

-- an access without a fault keeps the three rules
pub access_kept : (nodes : List ℕ) (plan : List Step) (position access : ℕ) → access_fault nodes plan position access ≡ None
    → (access < length nodes) × (access ≡ accesses_before plan position) × (is_held plan position (slice_get nodes access) ≡ true)
access_kept nodes plan position access none = grind (arith, eqb-true, ltb-true, not-false, rules_kept)

-- Many steps

-- the first fault stays the first
or_fault : (first next : Option PlanFault) (fault : PlanFault) → first ≡ Some fault → option_or first next ≡ Some fault
or_fault first next fault h = rw h refl

-- after steps without a fault the next step's fault is the first
pub fault_next : (rows : Rows) (nodes : List ℕ) (plan : List Step) (n : ℕ) → steps_fault rows nodes plan n ≡ None
    → steps_fault rows nodes plan (suc n) ≡ step_fault rows nodes plan n (slice_get plan n)
fault_next rows nodes plan n none = ap (λ (first : Option PlanFault). option_or first (step_fault rows nodes plan n (slice_get plan n))) none

-- the first fault of some steps is that of more
pub fault_stays : (rows : Rows) (nodes : List ℕ) (plan : List Step) (m n : ℕ) (fault : PlanFault) → m ≤ n
    → steps_fault rows nodes plan m ≡ Some fault → steps_fault rows nodes plan n ≡ Some fault
fault_stays rows nodes plan m zero fault le h = let e : m ≡ 0 = omega arith in rw e at h
fault_stays rows nodes plan m (suc n) fault le h = elim (cases_lt m (suc n)) [
  | inl lt ↦ or_fault (steps_fault rows nodes plan n) (step_fault rows nodes plan n (slice_get plan n)) fault (fault_stays rows nodes plan m n fault (omega arith) h)
  | inr ge ↦ let e : m ≡ suc n = omega arith in rw e at h
]

-- where no fault is found, each step keeps the rules
pub both_none : (first next : Option PlanFault) → option_or first next ≡ None → (first ≡ None) × (next ≡ None)
both_none None next h = (refl, h)
both_none (Some fault) next h = absurd (cc)

-- each step of faultless ones has no fault
pub each_kept : (rows : Rows) (nodes : List ℕ) (plan : List Step) (n i : ℕ) → i < n → steps_fault rows nodes plan n ≡ None
    → step_fault rows nodes plan i (slice_get plan i) ≡ None
each_kept rows nodes plan zero i lt h = absurd (omega arith)
each_kept rows nodes plan (suc n) i lt h =
    let parts : (steps_fault rows nodes plan n ≡ None) × (step_fault rows nodes plan n (slice_get plan n) ≡ None) =
    both_none (steps_fault rows nodes plan n) (step_fault rows nodes plan n (slice_get plan n)) h in
    elim (cases_lt i n) [
      | inl less ↦ each_kept rows nodes plan n i less parts.0
      | inr ge ↦ let e : i ≡ n = omega arith in rw e parts.1
    ]

-- and where each keeps them, no fault is found
pub none_found : (rows : Rows) (nodes : List ℕ) (plan : List Step) (n : ℕ) → ((i : ℕ) → i < n → step_fault rows nodes plan i (slice_get plan i) ≡ None)
    → steps_fault rows nodes plan n ≡ None
none_found rows nodes plan zero h = refl
none_found rows nodes plan (suc n) h = fault_next rows nodes plan n (none_found rows nodes plan n (λ i lt. h i (omega arith))) ∙ h n (omega arith)
