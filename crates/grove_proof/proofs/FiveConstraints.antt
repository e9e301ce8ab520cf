-- The locks and releases of a legal plan meet the five constraints.
use Rattle.std.proofs.Common.{◌≡◌, ℕ, zero, suc, ◌+◌, ◌<◌, ◌≤◌, true, false, cond, List, length, Option, Some, None}
use Rattle.std.proofs.Common.{refl, sym, ◌∙◌, ap, inl, inr, zero-add, arith}
use Rattle.std.specs.Prelude.{slice_index}
use Rattle.std.specs.List.{slice_get}
use Rattle.std.proofs.lemmas.Option.{same_Some, slice_get_within}
use Rattle.std.proofs.lemmas.Bool.{cases_lt, cases_order, cases_Bool, both_ways, cond-true, cond-false}
use Rattle.grove_base.specs.Numbers.{any_below, sum_below}
use Rattle.grove_tree.specs.Trees.{Rows, parent_of, IsTree}
use Rattle.grove_base.proofs.Counting.{any_true, any_from, any_false, count_mono, count_hit, least_is, numbers_got}
use Rattle.grove_tree.proofs.Above.{above_le, parent_lt}
use Rattle.grove_access.specs.Slots.{slots_before}
use Rattle.grove_access.specs.Forced.{IsCommon, IsForcedByTree}
use Rattle.grove_access.proofs.Slots.{slots_rise}
use Rattle.grove_access.proofs.ForcedByTree.{accessed_is_forced}
use Rattle.grove_plan.specs.declared.step.Step.{Step}
use Rattle.grove_plan.specs.declared.step.Step.TheVariants.{Lock, Unlock, Access}
use Rattle.grove_plan.specs.Plans.{locks, unlocks, is_access, held, slots_of, holding, IsLegal, IsLockedBy}
use Rattle.grove_plan.specs.Slots.{accesses_before, lock_position, release_position, first_lock_slot, first_release_slot}
use Rattle.grove_plan.proofs.Held.{HeldAt, held_at, held_from, held_not, locks_true, locks_from, unlocks_true, unlocks_from, access_no_unlock, access_at}
use Rattle.grove_proof.specs.Five.{lock_time, release_time, MeetsFive}
use Rattle.grove_proof.specs.Laws.{LegalMeetsFive}
use Rattle.grove_proof.proofs.Sums.{sum_window, sum_stops}
use Rattle.grove_proof.proofs.EveryPlanLocks.{IsPerformed, later_or_first, first_is_common, performed, by_tree_is_forced}

-- where a legal plan locks and unlocks a node
pub record HasPlaces (plan : List Step) (v : ℕ) : Type 0 where
  pub lock : ℕ
  pub unlock : ℕ
  pub is_lock : slice_get plan lock ≡ Some (Lock v)
  pub is_unlock : slice_get plan unlock ≡ Some (Unlock v)
  pub before : lock < unlock
  pub lock_is : lock_position plan v ≡ lock
  pub unlock_is : release_position plan v ≡ unlock
  pub only_unlock : (j : ℕ) → slice_get plan j ≡ Some (Unlock v) → j ≡ unlock
  pub only_lock : (j : ℕ) → slice_get plan j ≡ Some (Lock v) → j ≡ lock

module _ (rows : Rows) (nodes : List ℕ) (plan : List Step) (legal : IsLegal rows nodes plan) where
  -- an unlock stands after the lock
  lock_before : (i j v : ℕ) → slice_get plan i ≡ Some (Lock v) → slice_get plan j ≡ Some (Unlock v) → i < j
  lock_before i j v h k =
      let at : HeldAt plan v j = held_at plan v j (legal.obeys.unlocks_held j v k) in
      omega (arith, legal.obeys.once at.at i v at.is_lock h, at.before)

  -- a locked node is unlocked once
  unlock_order : (j k v : ℕ) → slice_get plan j ≡ Some (Unlock v) → slice_get plan k ≡ Some (Unlock v) → j < k → ⊥
  unlock_order j k v h g lt =
      let at : HeldAt plan v k = held_at plan v k (legal.obeys.unlocks_held k v g) in
      at.kept j (lock_before at.at j v at.is_lock h) lt h

  unlock_once : (j k v : ℕ) → slice_get plan j ≡ Some (Unlock v) → slice_get plan k ≡ Some (Unlock v) → j ≡ k
  unlock_once j k v h g = grind (arith, cases_order, unlock_order)

  -- and once at least
  has_unlock : (i v : ℕ) → slice_get plan i ≡ Some (Lock v) → (j : ℕ) × (slice_get plan j ≡ Some (Unlock v))
  has_unlock i v h = elim (cases_Bool (any_below (length plan) (λ j. unlocks v (slice_get plan j)))) [
    | inl some ↦ grind (arith, any_true, unlocks_true)
    | inr none ↦ absurd (both_ways (held plan v (length plan)) (legal.obeys.ends_free v)
        (held_from plan v (length plan) (record {
          at = i;
          before = slice_get_within plan i (Lock v) h;
          is_lock = h;
          kept = λ j above below is. both_ways (unlocks v (slice_get plan j)) (any_false (length plan) (λ j. unlocks v (slice_get plan j)) none j below) (unlocks_from v (slice_get plan j) is);
        })))
  ]

  -- the first place of a lock is that of the lock
  lock_place_is : (i v : ℕ) → slice_get plan i ≡ Some (Lock v) → lock_position plan v ≡ i
  lock_place_is i v h =
      let found : (lock_position plan v < length plan) × (locks v (slice_get plan (lock_position plan v)) ≡ true) × ((k : ℕ) → k < lock_position plan v → locks v (slice_get plan k) ≡ false) =
      least_is (length plan) (λ k. locks v (slice_get plan k)) (any_from (length plan) (λ k. locks v (slice_get plan k)) i (slice_get_within plan i (Lock v) h) (locks_from v (slice_get plan i) h)) in
      legal.obeys.once (lock_position plan v) i v (locks_true v (slice_get plan (lock_position plan v)) found.1) h

  release_place_is : (j v : ℕ) → slice_get plan j ≡ Some (Unlock v) → release_position plan v ≡ j
  release_place_is j v h =
      let found : (release_position plan v < length plan) × (unlocks v (slice_get plan (release_position plan v)) ≡ true) × ((k : ℕ) → k < release_position plan v → unlocks v (slice_get plan k) ≡ false) =
      least_is (length plan) (λ k. unlocks v (slice_get plan k)) (any_from (length plan) (λ k. unlocks v (slice_get plan k)) j (slice_get_within plan j (Unlock v) h) (unlocks_from v (slice_get plan j) h)) in
      unlock_once (release_position plan v) j v (unlocks_true v (slice_get plan (release_position plan v)) found.1) h

  -- the places of a locked node
  pub places : (i v : ℕ) → slice_get plan i ≡ Some (Lock v) → HasPlaces plan v
  places i v h = grind (arith, has_unlock, lock_before, lock_place_is, release_place_is, unlock_once)

-- at most, and another number
less_or_same : (a b : ℕ) → a ≤ b → (a ≡ b → ⊥) → suc a ≤ b
less_or_same a b le ne = elim (cases_lt a b) [ inl lt ↦ lt | inr ge ↦ absurd (ne (omega arith)) ]

-- a node is held from after its lock up to its unlock
pub held_within : (plan : List Step) (v q : ℕ) (at : HasPlaces plan v) → at.lock < q → q ≤ at.unlock → held plan v q ≡ true
held_within plan v q at above below = grind (arith, held_from)

-- and at no other place
pub held_only : (plan : List Step) (v q : ℕ) (at : HasPlaces plan v) → HeldAt plan v q → (at.lock < q) × (q ≤ at.unlock)
held_only plan v q at h = grind (arith, cases_lt)

-- the sums that meet in a holding
sums_meet : (lock a b hold c d e f release : ℕ) → lock ≡ a → b ≡ a → hold ≡ c → c ≡ d → b + d ≡ e → e ≡ f → release ≡ f → lock + hold ≡ release
sums_meet lock a b hold c d e f release h1 h2 h3 h4 h5 h6 h7 = omega arith

-- The slots that the steps of a legal plan take

step_taken : (lengths : List ℕ) (o : Option Step) (n : ℕ) → ((a : ℕ) → o ≡ Some (Access a) → a ≡ n)
    → slots_of lengths o + slots_before lengths n ≡ slots_before lengths (cond (is_access o) 1 0 + n)
step_taken lengths None n next = zero-add (slots_before lengths n) ∙ ap (slots_before lengths) (sym (zero-add n))
step_taken lengths (Some (Lock v)) n next = zero-add (slots_before lengths n) ∙ ap (slots_before lengths) (sym (zero-add n))
step_taken lengths (Some (Unlock v)) n next = zero-add (slots_before lengths n) ∙ ap (slots_before lengths) (sym (zero-add n))
step_taken lengths (Some (Access a)) n next =
    let more : suc n ≡ 1 + n = omega arith in
    ap (λ (k : ℕ). slice_index lengths k + slots_before lengths n) (next a refl) ∙ ap (slots_before lengths) more

-- the steps before a place take the slots of the accesses among them
pub slots_taken : (rows : Rows) (nodes lengths : List ℕ) (plan : List Step) → IsLegal rows nodes plan
    → (place : ℕ) → sum_below place (λ q. slots_of lengths (slice_get plan q)) ≡ slots_before lengths (accesses_before plan place)
slots_taken rows nodes lengths plan legal zero = refl
slots_taken rows nodes lengths plan legal (suc place) =
    ap (λ (n : ℕ). slots_of lengths (slice_get plan place) + n) (slots_taken rows nodes lengths plan legal place)
    ∙ step_taken lengths (slice_get plan place) (accesses_before plan place)
    (λ a is. (numbers_got (length nodes) (accesses_before plan place) a
    (ap (λ (xs : List ℕ). slice_get xs (accesses_before plan place)) (sym legal.performs.in_order) ∙ access_at plan place a is)).0)

-- a step that takes no slots
none_taken : (lengths : List ℕ) (plan : List Step) (i : ℕ) (step : Step) → slice_get plan i ≡ Some step → slots_of lengths (Some step) ≡ 0
    → sum_below (suc i) (λ q. slots_of lengths (slice_get plan q)) ≡ sum_below i (λ q. slots_of lengths (slice_get plan q))
none_taken lengths plan i step h none = grind (arith)

-- the holding lasts from the lock's time to the release's
pub holding_is : (rows : Rows) (nodes lengths : List ℕ) (plan : List Step) (v : ℕ) → IsLegal rows nodes plan → HasPlaces plan v
    → lock_time lengths plan v + holding lengths plan v ≡ release_time lengths plan v
holding_is rows nodes lengths plan v legal at =
    let slots : ℕ → ℕ = λ q. slots_of lengths (slice_get plan q) in
    let part : ℕ → ℕ = λ q. cond (held plan v q) (slots q) 0 in
    let order : at.lock < at.unlock = at.before in
    let inside : at.unlock < length plan = slice_get_within plan at.unlock (Unlock v) at.is_unlock in
    let window : sum_below (suc at.lock) slots + sum_below (suc at.unlock) part ≡ sum_below (suc at.unlock) slots =
    sum_window part slots (suc at.lock) (suc at.unlock)
    (λ q lt. cond-false (held plan v q) (slots q) 0 (held_not plan v q (λ h. let in_time : (at.lock < q) × (q ≤ at.unlock) = held_only plan v q at h in let low : at.lock < q = in_time.0 in omega arith)))
    (λ q above below. cond-true (held plan v q) (slots q) 0 (held_within plan v q at (omega arith) (omega arith)))
    (suc at.unlock) (omega arith) (omega arith) in
    let stops : sum_below (length plan) part ≡ sum_below (suc at.unlock) part =
    sum_stops part (suc at.unlock)
    (λ q above. cond-false (held plan v q) (slots q) 0 (held_not plan v q (λ h. let in_time : (at.lock < q) × (q ≤ at.unlock) = held_only plan v q at h in let high : q ≤ at.unlock = in_time.1 in omega arith)))
    (length plan) (omega arith) in
    grind (arith, none_taken, slots_taken, sums_meet)

-- the places of a forced node
pub forced_places : (rows : Rows) (nodes : List ℕ) (plan : List Step) (v : ℕ) → IsTree rows → IsLegal rows nodes plan → IsForcedByTree rows nodes v → HasPlaces plan v
forced_places rows nodes plan v tree legal forced =
    let locked : IsLockedBy plan v = by_tree_is_forced rows nodes v tree forced plan legal in
    places rows nodes plan legal locked.0 v locked.1

-- a forced parent is held where its child is locked
parent_held : (rows : Rows) (nodes : List ℕ) (plan : List Step) (v p i : ℕ) → IsTree rows → IsLegal rows nodes plan → IsForcedByTree rows nodes p → parent_of rows v ≡ Some p
    → slice_get plan i ≡ Some (Lock v) → HeldAt plan p i
parent_held rows nodes plan v p i tree legal forced e h = elim (later_or_first plan i) [
  | inl later ↦ grind (arith, held_at, same_Some)
  | inr first ↦
      let common : IsCommon rows nodes v = first_is_common rows nodes plan legal v i (record { there = h; first = first }) in
      absurd (omega (arith, above_le rows tree v p (forced.below v common), parent_lt rows tree v p e))
]

-- the same order, by how many accesses are done before each lock and release
pub record KeepsOrder (rows : Rows) (nodes : List ℕ) (plan : List Step) : Type 0 where
  pub above : (node parent : ℕ) → IsForcedByTree rows nodes node → IsForcedByTree rows nodes parent → parent_of rows node ≡ Some parent → first_lock_slot plan parent ≤ first_lock_slot plan node
  pub held : (node parent : ℕ) → IsForcedByTree rows nodes node → IsForcedByTree rows nodes parent → parent_of rows node ≡ Some parent → first_lock_slot plan node ≤ first_release_slot plan parent
  pub first : (node access : ℕ) → slice_get nodes access ≡ Some node → first_lock_slot plan node ≤ access
  pub last : (node access : ℕ) → slice_get nodes access ≡ Some node → suc access ≤ first_release_slot plan node
  pub own : (node : ℕ) → IsForcedByTree rows nodes node → first_lock_slot plan node ≤ first_release_slot plan node

-- every legal plan keeps it
pub keeps_order : (rows : Rows) (nodes : List ℕ) (plan : List Step) → IsTree rows → IsLegal rows nodes plan → KeepsOrder rows nodes plan
keeps_order rows nodes plan tree legal = record {
  above = λ v p sv sp e.
      let at : HasPlaces plan v = forced_places rows nodes plan v tree legal sv in
      let over : HasPlaces plan p = forced_places rows nodes plan p tree legal sp in
      let in_time : (over.lock < at.lock) × (at.lock ≤ over.unlock) = held_only plan p at.lock over (parent_held rows nodes plan v p at.lock tree legal sp e at.is_lock) in
      let lt : over.lock < at.lock = in_time.0 in
      rw (at.lock_is, over.lock_is) (count_mono over.lock at.lock (λ k. is_access (slice_get plan k)) (omega arith));
  held = λ v p sv sp e.
      let at : HasPlaces plan v = forced_places rows nodes plan v tree legal sv in
      let over : HasPlaces plan p = forced_places rows nodes plan p tree legal sp in
      let in_time : (over.lock < at.lock) × (at.lock ≤ over.unlock) = held_only plan p at.lock over (parent_held rows nodes plan v p at.lock tree legal sp e at.is_lock) in
      rw (at.lock_is, over.unlock_is) (count_mono at.lock over.unlock (λ k. is_access (slice_get plan k)) in_time.1);
  first = λ v access h.
      let at : HasPlaces plan v = forced_places rows nodes plan v tree legal (accessed_is_forced rows nodes access v h) in
      let done : IsPerformed plan access v = performed rows nodes plan legal access v h in
      grind (arith, count_mono, held_only);
  last = λ v access h.
      let at : HasPlaces plan v = forced_places rows nodes plan v tree legal (accessed_is_forced rows nodes access v h) in
      let done : IsPerformed plan access v = performed rows nodes plan legal access v h in
      let in_time : (at.lock < done.place) × (done.place ≤ at.unlock) = held_only plan v done.place at done.held in
      let le : done.place ≤ at.unlock = in_time.1 in
      let other : done.place ≡ at.unlock → ⊥ = λ e. access_no_unlock access v (sym done.there ∙ (ap (λ (n : ℕ). slice_get plan n) e ∙ at.is_unlock)) in
      let hit : accesses_before plan (suc done.place) ≡ suc (accesses_before plan done.place) = count_hit done.place (λ k. is_access (slice_get plan k)) (ap is_access done.there) in
      let rest : accesses_before plan (suc done.place) ≤ accesses_before plan at.unlock = count_mono (suc done.place) at.unlock (λ k. is_access (slice_get plan k)) (less_or_same done.place at.unlock le other) in
      let e : accesses_before plan done.place ≡ access = done.before in
      rw at.unlock_is (omega arith);
  own = λ v sv.
      let at : HasPlaces plan v = forced_places rows nodes plan v tree legal sv in
      let lt : at.lock < at.unlock = at.before in
      rw (at.lock_is, at.unlock_is) (count_mono at.lock at.unlock (λ k. is_access (slice_get plan k)) (omega arith));
}

-- in a legal plan the times meet the five constraints
pub meets_five : (rows : Rows) (nodes lengths : List ℕ) (plan : List Step) → IsTree rows → IsLegal rows nodes plan → MeetsFive rows nodes lengths plan
meets_five rows nodes lengths plan tree legal =
    let order : KeepsOrder rows nodes plan = keeps_order rows nodes plan tree legal in
    record {
      above = λ v p sv sp e. slots_rise lengths (first_lock_slot plan p) (first_lock_slot plan v) (order.above v p sv sp e);
      held = λ v p sv sp e. slots_rise lengths (first_lock_slot plan v) (first_release_slot plan p) (order.held v p sv sp e);
      first = λ v access h. slots_rise lengths (first_lock_slot plan v) access (order.first v access h);
      last = λ v access h. slots_rise lengths (suc access) (first_release_slot plan v) (order.last v access h);
      own = λ v sv. slots_rise lengths (first_lock_slot plan v) (first_release_slot plan v) (order.own v sv);
      holds = λ v sv. holding_is rows nodes lengths plan v legal (forced_places rows nodes plan v tree legal sv);
    }

-- and each forced node has its lock and release at the slots that are meant
pub legal_meets_five : LegalMeetsFive
legal_meets_five rows nodes lengths plan tree legal = (
  meets_five rows nodes lengths plan tree legal,
  λ v sv. let at : HasPlaces plan v = forced_places rows nodes plan v tree legal sv in
      ((at.lock, at.is_lock, ap (accesses_before plan) at.lock_is), (at.unlock, at.is_unlock, ap (accesses_before plan) at.unlock_is)),
)
