-- Holding: what it is for a node to be held at a position, how a step changes it, and where the accesses of a plan stand.
use Rattle.std.proofs.Common.{◌≡◌, ℕ, zero, suc, ◌<◌, Bool, true, false, not, ◌&&◌, ltb, List, [], ◌∷◌, length, Option}
use Rattle.std.proofs.Common.{Some, None, refl, sym, ◌∙◌, ap, inl, inr, zero-add, arith, ◌++◌}
use Rattle.std.specs.List.{slice_get}
use Rattle.std.proofs.lemmas.Option.{none-some, same_Some}
use Rattle.std.proofs.lemmas.Bool.{cases_lt, cases_eq, both_ways, and_parts, and_from, eqb-true, eq-eqb, ltb-true, lt-ltb, not-true, not_from_false, false_from_ne_true}
use Rattle.grove_base.specs.Numbers.{any_below}
use Rattle.grove_base.proofs.Counting.{any_from, any_true, any_none, any_false, count_front, same_tests}
use Rattle.grove_plan.specs.declared.step.Step.{Step}
use Rattle.grove_plan.specs.declared.step.Step.TheVariants.{Lock, Unlock, Access}
use Rattle.grove_plan.specs.Plans.{locks, unlocks, is_lock, is_access, held, accesses_of}
use Rattle.grove_plan.specs.Slots.{accesses_before}

-- What the tests of a step say

-- a step that passes is the lock of the node
pub locks_true : (v : ℕ) (step : Option Step) → locks v step ≡ true → step ≡ Some (Lock v)
locks_true v (Some (Lock w)) h = ap (λ (n : ℕ). Some (Lock n)) (eqb-true w v h)
locks_true v (Some (Unlock w)) h = absurd (cc)
locks_true v (Some (Access a)) h = absurd (cc)
locks_true v None h = absurd (cc)

-- and the lock passes
pub locks_from : (v : ℕ) (step : Option Step) → step ≡ Some (Lock v) → locks v step ≡ true
locks_from v step h = rw h (eq-eqb v v refl)

-- a step that passes is the unlock of the node
pub unlocks_true : (v : ℕ) (step : Option Step) → unlocks v step ≡ true → step ≡ Some (Unlock v)
unlocks_true v (Some (Lock w)) h = absurd (cc)
unlocks_true v (Some (Unlock w)) h = ap (λ (n : ℕ). Some (Unlock n)) (eqb-true w v h)
unlocks_true v (Some (Access a)) h = absurd (cc)
unlocks_true v None h = absurd (cc)

-- and the unlock passes
pub unlocks_from : (v : ℕ) (step : Option Step) → step ≡ Some (Unlock v) → unlocks v step ≡ true
unlocks_from v step h = rw h (eq-eqb v v refl)

-- a step that passes is a lock of some node
pub is_lock_true : (step : Option Step) → is_lock step ≡ true → (v : ℕ) × (step ≡ Some (Lock v))
is_lock_true (Some (Lock w)) h = (w, refl)
is_lock_true (Some (Unlock w)) h = absurd (cc)
is_lock_true (Some (Access a)) h = absurd (cc)
is_lock_true None h = absurd (cc)

-- steps of different kinds differ, and those of one kind are of one number where they are one
pub unlock_no_lock : (v w : ℕ) → Some (Unlock v) ≡ Some (Lock w) → ⊥
unlock_no_lock v w h = absurd (cc)

-- an access is no lock
pub access_no_lock : (a w : ℕ) → Some (Access a) ≡ Some (Lock w) → ⊥
access_no_lock a w h = absurd (cc)

-- and no unlock
pub access_no_unlock : (a w : ℕ) → Some (Access a) ≡ Some (Unlock w) → ⊥
access_no_unlock a w h = absurd (cc)

-- locks that are one are of one node
pub lock_same : (v w : ℕ) → Lock v ≡ Lock w → v ≡ w
lock_same v w h = cc

-- and so are unlocks
pub unlock_same : (v w : ℕ) → Unlock v ≡ Unlock w → v ≡ w
unlock_same v w h = cc

-- accesses that are one have one number
pub access_same : (a b : ℕ) → Access a ≡ Access b → a ≡ b
access_same a b h = cc

-- A node is held at a position: the position of its lock before it, with no unlock between.
pub record HeldAt (plan : List Step) (v position : ℕ) : Type 0 where
  pub at : ℕ
  pub before : at < position
  pub is_lock : slice_get plan at ≡ Some (Lock v)
  pub kept : (j : ℕ) → at < j → j < position → slice_get plan j ≡ Some (Unlock v) → ⊥

-- some unlock of a node stands between two positions
abbrev unlocked_between : List Step → ℕ → ℕ → ℕ → Bool
unlocked_between plan v i position = any_below position (λ j. ltb i j && unlocks v (slice_get plan j))

-- no unlock between, as a test and as a fact
between_none : (plan : List Step) (v i position : ℕ) → unlocked_between plan v i position ≡ false → (j : ℕ) → i < j → j < position → slice_get plan j ≡ Some (Unlock v) → ⊥
between_none plan v i position h j above below is =
    both_ways (ltb i j && unlocks v (slice_get plan j))
    (any_false position (λ j. ltb i j && unlocks v (slice_get plan j)) h j below)
    (and_from (ltb i j) (unlocks v (slice_get plan j)) (lt-ltb i j above) (unlocks_from v (slice_get plan j) is))

none_between : (plan : List Step) (v i position : ℕ) → ((j : ℕ) → i < j → j < position → slice_get plan j ≡ Some (Unlock v) → ⊥) → unlocked_between plan v i position ≡ false
none_between plan v i position h = grind (arith, and_parts, any_none, false_from_ne_true, ltb-true, unlocks_true)

-- from the test to the fact
pub held_at : (plan : List Step) (v position : ℕ) → held plan v position ≡ true → HeldAt plan v position
held_at plan v position h = grind (arith, and_parts, any_true, between_none, locks_true, not-true)

-- and back
pub held_from : (plan : List Step) (v position : ℕ) → HeldAt plan v position → held plan v position ≡ true
held_from plan v position h =
    any_from position (λ i. locks v (slice_get plan i) && not (unlocked_between plan v i position)) h.at h.before
    (and_from (locks v (slice_get plan h.at)) (not (unlocked_between plan v h.at position))
    (locks_from v (slice_get plan h.at) h.is_lock)
    (not_from_false (unlocked_between plan v h.at position) (none_between plan v h.at position h.kept)))

-- what isn't held, by the fact
pub held_not : (plan : List Step) (v position : ℕ) → (HeldAt plan v position → ⊥) → held plan v position ≡ false
held_not plan v position h = false_from_ne_true (held plan v position) (λ e. h (held_at plan v position e))

-- How a step changes it

-- after a lock its node is held
pub held_step_lock : (plan : List Step) (v i : ℕ) → slice_get plan i ≡ Some (Lock v) → held plan v (suc i) ≡ true
held_step_lock plan v i h = held_from plan v (suc i) (record { at = i; before = omega arith; is_lock = h; kept = λ j above below is. absurd (omega arith) })

-- after an unlock it isn't
pub held_step_unlock : (plan : List Step) (v i : ℕ) → slice_get plan i ≡ Some (Unlock v) → held plan v (suc i) ≡ false
held_step_unlock plan v i h = held_not plan v (suc i) (λ at.
    elim (cases_lt at.at i) [
      | inl lt ↦ at.kept i lt (omega arith) h
      | inr ge ↦ grind (arith, unlock_no_lock)
    ])

-- after any other step it is held as before
pub held_step_other : (plan : List Step) (v i : ℕ) → locks v (slice_get plan i) ≡ false → unlocks v (slice_get plan i) ≡ false → held plan v (suc i) ≡ held plan v i
held_step_other plan v i no_lock no_unlock = same_tests (held plan v (suc i)) (held plan v i)
    (λ after. let at : HeldAt plan v (suc i) = held_at plan v (suc i) after in
    grind (arith, both_ways, cases_eq, held_from, locks_from))
    (λ now. let at : HeldAt plan v i = held_at plan v i now in
    grind (arith, both_ways, cases_eq, held_from, unlocks_from))

-- Where the accesses stand

-- an access of the plan stands among its accesses, after those before it
pub access_at : (plan : List Step) (q a : ℕ) → slice_get plan q ≡ Some (Access a) → slice_get (accesses_of plan) (accesses_before plan q) ≡ Some a
access_at [] q a h = absurd (none-some (Access a) h)
access_at (Lock v ∷ plan) zero a h = absurd (cc)
access_at (Unlock v ∷ plan) zero a h = absurd (cc)
access_at (Access b ∷ plan) zero a h = ap (λ (n : ℕ). Some n) (access_same b a (same_Some (Access b) (Access a) h))
access_at (Lock v ∷ plan) (suc q) a h = rw (count_front q (λ i. is_access (slice_get (Lock v ∷ plan) i)) ∙ zero-add (accesses_before plan q)) (access_at plan q a h)
access_at (Unlock v ∷ plan) (suc q) a h = rw (count_front q (λ i. is_access (slice_get (Unlock v ∷ plan) i)) ∙ zero-add (accesses_before plan q)) (access_at plan q a h)
access_at (Access b ∷ plan) (suc q) a h =
    let e : accesses_before (Access b ∷ plan) (suc q) ≡ suc (accesses_before plan q) = omega (arith, count_front q (λ i. is_access (slice_get (Access b ∷ plan) i))) in
    rw e (access_at plan q a h)

-- each of its accesses stands somewhere in the plan, with that many before it
pub find_access : (plan : List Step) (k a : ℕ) → slice_get (accesses_of plan) k ≡ Some a
    → (q : ℕ) × (slice_get plan q ≡ Some (Access a)) × (accesses_before plan q ≡ k)
find_access [] k a h = absurd (none-some a h)
find_access (Lock v ∷ plan) k a h =
    let found : (q : ℕ) × (slice_get plan q ≡ Some (Access a)) × (accesses_before plan q ≡ k) = find_access plan k a h in
    (suc found.0, found.1, count_front found.0 (λ i. is_access (slice_get (Lock v ∷ plan) i)) ∙ zero-add (accesses_before plan found.0) ∙ found.2)
find_access (Unlock v ∷ plan) k a h =
    let found : (q : ℕ) × (slice_get plan q ≡ Some (Access a)) × (accesses_before plan q ≡ k) = find_access plan k a h in
    (suc found.0, found.1, count_front found.0 (λ i. is_access (slice_get (Unlock v ∷ plan) i)) ∙ zero-add (accesses_before plan found.0) ∙ found.2)
find_access (Access b ∷ plan) zero a h = (0, ap (λ (n : ℕ). Some (Access n)) (same_Some b a h), refl)
find_access (Access b ∷ plan) (suc k) a h =
    let found : (q : ℕ) × (slice_get plan q ≡ Some (Access a)) × (accesses_before plan q ≡ k) = find_access plan k a h in
    let e : accesses_before plan found.0 ≡ k = found.2 in
    (suc found.0, found.1, omega (arith, count_front found.0 (λ i. is_access (slice_get (Access b ∷ plan) i))))

-- as many accesses as there are before the plan's end
pub accesses_length : (plan : List Step) → length (accesses_of plan) ≡ accesses_before plan (length plan)
accesses_length [] = refl
accesses_length (Lock v ∷ plan) = accesses_length plan ∙ sym (count_front (length plan) (λ i. is_access (slice_get (Lock v ∷ plan) i)) ∙ zero-add (accesses_before plan (length plan)))
accesses_length (Unlock v ∷ plan) = accesses_length plan ∙ sym (count_front (length plan) (λ i. is_access (slice_get (Unlock v ∷ plan) i)) ∙ zero-add (accesses_before plan (length plan)))
accesses_length (Access b ∷ plan) =
    omega (arith, count_front (length plan) (λ i. is_access (slice_get (Access b ∷ plan) i)), accesses_length plan)

-- the accesses of two plans joined
pub accesses_append : (xs ys : List Step) → accesses_of (xs ++ ys) ≡ accesses_of xs ++ accesses_of ys
accesses_append [] ys = refl
accesses_append (Lock v ∷ xs) ys = accesses_append xs ys
accesses_append (Unlock v ∷ xs) ys = accesses_append xs ys
accesses_append (Access a ∷ xs) ys = ap (λ (zs : List ℕ). a ∷ zs) (accesses_append xs ys)
