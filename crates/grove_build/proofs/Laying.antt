-- A plan laid out from numbers that fit is legal, and has these numbers as its slots.
use Rattle.std.proofs.Common.{◌≡◌, ℕ, zero, suc, ◌+◌, ◌*◌, ◌<◌, ◌≤◌, Bool, true, false, ◌&&◌, ◌⊎◌, List, [], ◌∷◌}
use Rattle.std.proofs.Common.{length, Some, refl, ◌∙◌, ap, inl, inr, arith, eqb, eq-eqb, le-ltb, suc-mul}
use Rattle.std.specs.List.{slice_get, list_any}
use Rattle.std.proofs.lemmas.Option.{none-some, same_Some, slice_get_within}
use Rattle.std.proofs.lemmas.Bool.{cases_lt, cases_eq, and_from, and_left, and_right, not_from_true, or_left, or_right}
use Rattle.grove_tree.specs.Trees.{Rows, parent_of, is_at, IsAbove}
use Rattle.grove_base.proofs.Counting.{any_from, least_is, count_mono, count_hit, numbers_got, numbers_length}
use Rattle.grove_access.specs.Forced.{IsForcedByTree, IsCommon}
use Rattle.grove_plan.specs.declared.step.Step.{Step}
use Rattle.grove_plan.specs.declared.step.Step.TheVariants.{Lock, Unlock, Access}
use Rattle.grove_plan.specs.Plans.{accesses_of, is_access, locks, unlocks, held, ObeysTreeProtocol, Performs, IsLegal, IsLockedBy}
use Rattle.grove_plan.specs.Slots.{accesses_before, lock_position, release_position, first_lock_slot, first_release_slot}
use Rattle.grove_plan.proofs.Held.{held_from, held_not, access_at, accesses_length, locks_true, locks_from, unlocks_true, unlocks_from}
use Rattle.grove_build.specs.Layout.{has_child_in, is_early, laid_out}
use Rattle.grove_build.proofs.Runs.{Has, Rises, itself, rises_within, rises_order, rises_place, rises_once}
use Rattle.grove_build.proofs.Laid.{rank_of, step_key, gap_less, gap_le, laid_lock, laid_unlock, laid_access, laid_stands, laid_accesses, laid_rises, late_key}
use Rattle.grove_build.proofs.Fitting.{Fits}

-- some item passes
pub any_has : {A : Type 0} (test : A → Bool) (xs : List A) (x : A) → Has xs x → test x ≡ true → list_any test xs ≡ true
any_has test [] x (k, h) e = absurd (none-some x h)
any_has test (y ∷ xs) x (zero, h) e = or_left (test y) (list_any test xs) (ap test (same_Some y x h) ∙ e)
any_has test (y ∷ xs) x (suc k, h) e = or_right (test y) (list_any test xs) (any_has test xs x (k, h) e)

module _ (rows : Rows) (nodes : List ℕ) (span : List ℕ) (lock release : ℕ → ℕ)
    (fits : Fits rows nodes lock release) (rising : Rises itself 0 (length rows) span)
    (has : (v : ℕ) → IsForcedByTree rows nodes v → Has span v)
    (got : (v : ℕ) → Has span v → IsForcedByTree rows nodes v)
    (accessed : (access v : ℕ) → slice_get nodes access ≡ Some v → IsForcedByTree rows nodes v)
    (step_up : (v : ℕ) → IsForcedByTree rows nodes v
    → IsCommon rows nodes v ⊎ ((p : ℕ) × (parent_of rows v ≡ Some p) × IsForcedByTree rows nodes p))
    (parent_less : (v p : ℕ) → parent_of rows v ≡ Some p → p < v)
    (above_less : (a b : ℕ) → IsAbove rows a b → a ≤ b) where
  abbrev m : ℕ
  m = length nodes

  abbrev n : ℕ
  n = length rows

  abbrev pub plan : List Step
  plan = laid_out rows span lock release m

  abbrev early : ℕ → Bool
  early v = is_early rows span lock release v

  within : (v : ℕ) → IsForcedByTree rows nodes v → v < n
  within v s = let h = has v s in (rises_within itself 0 n span h.0 v rising h.1).1

  -- a common spanned node locks no later than any other
  top_first : (bound c v : ℕ) → v < bound → IsForcedByTree rows nodes c → IsCommon rows nodes c → IsForcedByTree rows nodes v
      → lock c ≤ lock v
  top_first zero c v lt sc cc' sv = absurd (omega arith)
  top_first (suc bound) c v lt sc cc' sv = elim (step_up v sv) [
    | inl common ↦
        let a : c ≤ v = above_less c v (sv.below c cc') in
        let b : v ≤ c = above_less v c (sc.below v common) in
        grind (arith)
    | inr up ↦
        let less : up.0 < v = parent_less v up.0 up.1 in
        omega (arith, top_first bound c up.0 (omega arith) sc cc' up.2, fits.above v up.0 sv up.2 up.1)
  ]

  module _ (w : ℕ) (wide : w ≡ suc (n + (n + n))) where
    abbrev key : Step → ℕ
    key s = step_key early lock release n w s

    ordered : Rises key 0 (m * w + (n + n + n)) plan
    ordered = laid_rises rows span lock release n w wide rising m

    gap_below : (g h r s : ℕ) → g ≤ h → r < s → g * w + r < h * w + s
    gap_below g h r s le lt = let t : g * w + suc r ≤ h * w + s = gap_le w g h (suc r) s le lt in omega arith

    -- each node is unlocked after its lock
    own_key : (v : ℕ) → IsForcedByTree rows nodes v → key (Lock v) < key (Unlock v)
    own_key v s =
        let le : lock v ≤ release v = fits.own v s in
        let vn : v < n = within v s in
        elim (cases_lt (lock v) (release v)) [
          | inl less ↦ gap_less w (lock v) (release v) (n + v) (rank_of (early v) n v) less (omega arith)
          | inr ge ↦ grind (arith, and_left, gap_below, late_key, le-ltb)
        ]

    -- a parent is locked before its child
    parent_key : (v p : ℕ) → IsForcedByTree rows nodes v → IsForcedByTree rows nodes p → parent_of rows v ≡ Some p
        → key (Lock p) < key (Lock v)
    parent_key v p sv sp up =
        let less : p < v = parent_less v p up in
        gap_below (lock p) (lock v) (n + p) (n + v) (fits.above v p sv sp up) (omega arith)

    -- and unlocked after the child's lock
    child_key : (v p : ℕ) → IsForcedByTree rows nodes v → IsForcedByTree rows nodes p → parent_of rows v ≡ Some p
        → key (Lock v) < key (Unlock p)
    child_key v p sv sp up =
        let le : lock v ≤ release p = fits.held v p sv sp up in
        let vn : v < n = within v sv in
        elim (cases_eq (lock v) (release p)) [
          | inr ne ↦ gap_less w (lock v) (release p) (n + v) (rank_of (early p) n p) (omega arith) (omega arith)
          | inl e ↦
              let child : has_child_in rows span lock (release p) p ≡ true =
              any_has (λ child. is_at p (parent_of rows child) && eqb (lock child) (release p)) span v (has v sv)
              (and_from (is_at p (parent_of rows v)) (eqb (lock v) (release p))
              (ap (λ o. is_at p o) up ∙ eq-eqb p p refl) (eq-eqb (lock v) (release p) e)) in
              grind (arith, and_right, gap_below, late_key, not_from_true)
        ]

    lock_access_key : (v a : ℕ) → IsForcedByTree rows nodes v → lock v ≤ a → key (Lock v) < key (Access a)
    lock_access_key v a s le = let vn : v < n = within v s in gap_below (lock v) a (n + v) (n + n + n) le (omega arith)

    access_unlock_key : (v a : ℕ) → suc a ≤ release v → key (Access a) < key (Unlock v)
    access_unlock_key v a le = gap_less w a (release v) (n + n + n) (rank_of (early v) n v) le (omega arith)

    -- between a node's lock and unlock it is held
    held_there : (v i : ℕ) (s : Step) → IsForcedByTree rows nodes v → slice_get plan i ≡ Some s → key (Lock v) < key s
        → key s ≤ key (Unlock v) → held plan v i ≡ true
    held_there v i s sv h after before =
        let le : lock v ≤ m = omega (arith, fits.own v sv, fits.top v sv) in
        let at = laid_lock rows span lock release m v (has v sv) le in
        held_from plan v i (record {
          at = at.0;
          before = rises_place key 0 (m * w + (n + n + n)) plan at.0 i (Lock v) s ordered at.1 h after;
          is_lock = at.1;
          kept = grind (arith, ordered, rises_order);
        })

    obeys : ObeysTreeProtocol rows plan
    obeys = record {
      locks_nodes = λ i v h. within v (got v (laid_stands rows span lock release m (Lock v) (i, h)));
      parents = λ i v h later.
          let sv = got v (laid_stands rows span lock release m (Lock v) (i, h)) in
          let u = later.1 in
          let su = got u (laid_stands rows span lock release m (Lock u) (later.0, later.3)) in
          let P : Type 0 = (parent : ℕ) × (parent_of rows v ≡ Some parent) × (held plan parent i ≡ true) in
          let r : P = elim (step_up v sv) [
            | inl common ↦
                let le : lock v ≤ lock u = top_first (suc u) v u (omega arith) sv common su in
                let less : v ≤ u = above_less v u (su.below v common) in
                let x : key (Lock u) < key (Lock v) =
                rises_order key 0 (m * w + (n + n + n)) plan later.0 i (Lock u) (Lock v) ordered later.3 h
                later.2 in
                absurd (omega (arith, gap_le w (lock v) (lock u) (n + v) (n + u) le (omega arith)))
            | inr up ↦ grind (arith, child_key, held_there, parent_key)
          ] in r;
      once = λ i j v h k. rises_once key 0 (m * w + (n + n + n)) plan i j (Lock v) ordered h k;
      unlocks_held = λ i v h.
          let sv = got v (laid_stands rows span lock release m (Unlock v) (i, h)) in
          held_there v i (Unlock v) sv h (own_key v sv) (omega arith);
      ends_free = λ v. held_not plan v (length plan) (λ at.
          let sv = got v (laid_stands rows span lock release m (Lock v) (at.at, at.is_lock)) in
          let u = laid_unlock rows span lock release m v (has v sv) (fits.top v sv) in
          at.kept u.0 (rises_place key 0 (m * w + (n + n + n)) plan at.at u.0 (Lock v) (Unlock v) ordered at.is_lock
          u.1 (own_key v sv)) (slice_get_within plan u.0 (Unlock v) u.1) u.1);
    }

    performs : Performs nodes plan
    performs = grind (arith, access_unlock_key, held_there, laid_accesses, lock_access_key)

    pub legal : IsLegal rows nodes plan
    legal = record { obeys = obeys; performs = performs }

    -- The slots.

    access_before : (q a : ℕ) → slice_get plan q ≡ Some (Access a) → accesses_before plan q ≡ a
    access_before q a h = grind (arith, access_at, laid_accesses, numbers_got)

    slot_low : (g i : ℕ) (s : Step) → g ≤ m → slice_get plan i ≡ Some s → g * w ≤ key s → g ≤ accesses_before plan i
    slot_low zero i s le h low = omega arith
    slot_low (suc g) i s le h low =
        let at = laid_access rows span lock release m g (omega arith) in
        let e : suc g * w ≡ w + g * w = times g in
        let before : at.0 < i =
        rises_place key 0 (m * w + (n + n + n)) plan at.0 i (Access g) s ordered at.1 h (omega arith) in
        let c : accesses_before plan (suc at.0) ≡ suc (accesses_before plan at.0) =
        count_hit at.0 (λ k. is_access (slice_get plan k)) (ap is_access at.1) in
        omega (arith, access_before at.0 g at.1, count_mono (suc at.0) i (λ k. is_access (slice_get plan k)) before)
      where
        times : (g : ℕ) → suc g * w ≡ w + g * w
        times g = omega (arith, suc-mul g w)

    slot_high : (g i : ℕ) (s : Step) → g ≤ m → slice_get plan i ≡ Some s → key s < g * w + (n + n + n)
        → accesses_before plan i ≤ g
    slot_high g i s le h high = elim (cases_eq g m) [
      | inr ne ↦
          let at = laid_access rows span lock release m g (omega arith) in
          grind (arith, access_before, count_mono, ordered, rises_place)
      | inl e ↦
          let b : length (accesses_of plan) ≡ accesses_before plan (length plan) = accesses_length plan in
          grind (arith, count_mono, laid_accesses, numbers_length, slice_get_within)
    ]

    slot_is : (g i : ℕ) (s : Step) → g ≤ m → slice_get plan i ≡ Some s → g * w ≤ key s → key s < g * w + (n + n + n)
        → accesses_before plan i ≡ g
    slot_is g i s le h low high = omega (arith, slot_low g i s le h low, slot_high g i s le h high)

    rank_low : (b : Bool) (v : ℕ) → v < n → rank_of b n v < n + n + n
    rank_low true v lt = omega arith
    rank_low false v lt = omega arith

    pub lock_slot_is : (v : ℕ) → IsForcedByTree rows nodes v → first_lock_slot plan v ≡ lock v
    lock_slot_is v sv =
        let le : lock v ≤ m = omega (arith, fits.own v sv, fits.top v sv) in
        let at = laid_lock rows span lock release m v (has v sv) le in
        let test : ℕ → Bool = λ i. locks v (slice_get plan i) in
        let l = least_is (length plan) (λ i. locks v (slice_get plan i))
        (any_from (length plan) (λ i. locks v (slice_get plan i)) at.0 (slice_get_within plan at.0 (Lock v) at.1)
        (locks_from v (slice_get plan at.0) at.1)) in
        let vn : v < n = within v sv in
        slot_is (lock v) (lock_position plan v) (Lock v) le (locks_true v (slice_get plan (lock_position plan v)) l.1)
        (omega arith) (omega arith)

    pub release_slot_is : (v : ℕ) → IsForcedByTree rows nodes v → first_release_slot plan v ≡ release v
    release_slot_is v sv =
        let le : release v ≤ m = fits.top v sv in
        let at = laid_unlock rows span lock release m v (has v sv) le in
        let l = least_is (length plan) (λ i. unlocks v (slice_get plan i))
        (any_from (length plan) (λ i. unlocks v (slice_get plan i)) at.0
        (slice_get_within plan at.0 (Unlock v) at.1) (unlocks_from v (slice_get plan at.0) at.1)) in
        let r : rank_of (early v) n v < n + n + n = rank_low (early v) v (within v sv) in
        slot_is (release v) (release_position plan v) (Unlock v) le
        (unlocks_true v (slice_get plan (release_position plan v)) l.1) (omega arith) (omega arith)

    pub locks_span : (v : ℕ) → IsLockedBy plan v → IsForcedByTree rows nodes v
    locks_span v h = got v (laid_stands rows span lock release m (Lock v) (h.0, h.1))

    pub span_locked : (v : ℕ) → IsForcedByTree rows nodes v → IsLockedBy plan v
    span_locked v sv = grind (arith, laid_lock)
