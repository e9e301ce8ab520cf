-- What a legal plan does with the nodes that it locks, and what it doesn't do with the others.
use Rattle.std.proofs.Common.{◌≡◌, ℕ, ◌+◌, ◌-◌, ◌<◌, ◌≤◌, Bool, true, false, cond, List, length, Some, None, refl, sym, ◌∙◌, ap, arith}
use Rattle.std.specs.List.{slice_get}
use Rattle.std.proofs.lemmas.Option.{slice_get_within, cond_some}
use Rattle.std.proofs.lemmas.Bool.{both_ways, cond-false}
use Rattle.grove_base.specs.Numbers.{any_below}
use Rattle.grove_base.proofs.Counting.{any_true, any_from, any_false, count_mono, sum_zero, numbers_length}
use Rattle.grove_tree.specs.Trees.{Rows}
use Rattle.grove_access.specs.Slots.{slots_before}
use Rattle.grove_plan.specs.declared.step.Step.{Step}
use Rattle.grove_plan.specs.declared.step.Step.TheVariants.{Lock, Unlock}
use Rattle.grove_plan.specs.Plans.{locks, unlocks, is_access, held, slots_of, holding, IsLegal, IsLockedBy}
use Rattle.grove_plan.specs.Slots.{accesses_before, first_lock_slot, first_release_slot, slot_of_lock, slot_of_release}
use Rattle.grove_plan.proofs.Held.{held_not, locks_true, locks_from, unlocks_from, accesses_length}
use Rattle.grove_proof.specs.Five.{lock_time, release_time}
use Rattle.grove_proof.proofs.FiveConstraints.{HasPlaces, places, holding_is}
use Rattle.grove_draw.specs.Bars.{is_locked}

-- a node that some step locks passes the test
pub locked_from : (plan : List Step) (v : ℕ) → IsLockedBy plan v → is_locked plan v ≡ true
locked_from plan v (i, is) = any_from (length plan) (λ k. locks v (slice_get plan k)) i (slice_get_within plan i (Lock v) is) (locks_from v (slice_get plan i) is)

-- and only such a node does
pub locked_by : (plan : List Step) (v : ℕ) → is_locked plan v ≡ true → IsLockedBy plan v
locked_by plan v h = grind (arith, any_true, locks_true)

-- a node that no step locks is never held
pub unlocked_free : (lengths : List ℕ) (plan : List Step) (v : ℕ) → is_locked plan v ≡ false → holding lengths plan v ≡ 0
unlocked_free lengths plan v none =
    sum_zero (length plan) (λ q. cond (held plan v q) (slots_of lengths (slice_get plan q)) 0)
    (λ q lt. cond-false (held plan v q) (slots_of lengths (slice_get plan q)) 0 (held_not plan v q (λ h.
    let before : h.at < q = h.before in
    both_ways (locks v (slice_get plan h.at)) (any_false (length plan) (λ k. locks v (slice_get plan k)) none h.at (omega arith)) (locks_from v (slice_get plan h.at) h.is_lock))))

-- what a choice that is nothing says
unchosen : (b : Bool) (x : ℕ) → cond b (Some x) None ≡ None → b ≡ false
unchosen true x h = absurd (cc)
unchosen false x h = refl

-- a node whose lock has a slot is locked
pub slot_locked : (plan : List Step) (v slot : ℕ) → slot_of_lock plan v ≡ Some slot → is_locked plan v ≡ true
slot_locked plan v slot h = (cond_some (is_locked plan v) (first_lock_slot plan v) slot h).0

-- the slots of the lock and the release of a node, in order, and how long the node is held
pub record HasSlots (nodes lengths : List ℕ) (plan : List Step) (v lock release : ℕ) : Type 0 where
  pub order : lock ≤ release
  pub within : release ≤ length nodes
  pub held : slots_before lengths release - slots_before lengths lock ≡ holding lengths plan v

module _ (rows : Rows) (nodes : List ℕ) (plan : List Step) (legal : IsLegal rows nodes plan) where
  -- a locked node has its places in the plan
  places_of : (v slot : ℕ) → slot_of_lock plan v ≡ Some slot → HasPlaces plan v
  places_of v slot h = let (i, is) = locked_by plan v (slot_locked plan v slot h) in places rows nodes plan legal i v is

  -- as many accesses as the list has are done before the end
  all_done : accesses_before plan (length plan) ≡ length nodes
  all_done = sym (accesses_length plan) ∙ ap length legal.performs.in_order ∙ numbers_length (length nodes)

  -- a node whose lock has a slot is released
  pub released : (v slot : ℕ) → slot_of_lock plan v ≡ Some slot → slot_of_release plan v ≡ None → ⊥
  released v slot h none = grind (arith, any_from, both_ways, places_of, slice_get_within, unchosen, unlocks_from)

  -- its slots are in order, and it is held for what lies between them
  pub has_slots : (lengths : List ℕ) (v lock release : ℕ) → slot_of_lock plan v ≡ Some lock → slot_of_release plan v ≡ Some release → HasSlots nodes lengths plan v lock release
  has_slots lengths v lock release h k =
      let at : HasPlaces plan v = places_of v lock h in
      let first : first_lock_slot plan v ≡ lock = (cond_some (is_locked plan v) (first_lock_slot plan v) lock h).1 in
      let last : first_release_slot plan v ≡ release =
      (cond_some (any_below (length plan) (λ i. unlocks v (slice_get plan i))) (first_release_slot plan v)
      release k).1 in
      let lock_at : first_lock_slot plan v ≡ accesses_before plan at.lock = ap (accesses_before plan) at.lock_is in
      let release_at : first_release_slot plan v ≡ accesses_before plan at.unlock = ap (accesses_before plan) at.unlock_is in
      let before : at.lock < at.unlock = at.before in
      let inside : at.unlock < length plan = slice_get_within plan at.unlock (Unlock v) at.is_unlock in
      let risen : accesses_before plan at.lock ≤ accesses_before plan at.unlock = count_mono at.lock at.unlock (λ i. is_access (slice_get plan i)) (omega arith) in
      let few : accesses_before plan at.unlock ≤ accesses_before plan (length plan) = count_mono at.unlock (length plan) (λ i. is_access (slice_get plan i)) (omega arith) in
      let all : accesses_before plan (length plan) ≡ length nodes = all_done in
      let lasts : lock_time lengths plan v + holding lengths plan v ≡ release_time lengths plan v = holding_is rows nodes lengths plan v legal at in
      let from : lock_time lengths plan v ≡ slots_before lengths lock = ap (slots_before lengths) first in
      let until : release_time lengths plan v ≡ slots_before lengths release = ap (slots_before lengths) last in
      record {
        order = omega arith;
        within = omega arith;
        held = difference (lock_time lengths plan v) (holding lengths plan v) (release_time lengths plan v) (slots_before lengths lock) (slots_before lengths release) lasts from until;
      }
    where
      difference : (a b c d e : ℕ) → a + b ≡ c → a ≡ d → c ≡ e → e - d ≡ b
      difference a b c d e h1 h2 h3 = omega arith
