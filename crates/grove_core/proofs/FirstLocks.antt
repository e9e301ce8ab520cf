-- The first lock of a plan is of the least deep of its nodes, and each later one of a child of a held node.
use Rattle.std.proofs.Common.{◌≡◌, ℕ, zero, suc, ◌<◌, ◌≤◌, ◌⊎◌, List, [], ◌∷◌, length, Option, Some, None, refl, sym}
use Rattle.std.proofs.Common.{◌∙◌, ap, inl, inr, arith}
use Rattle.std.specs.List.{slice_get}
use Rattle.std.proofs.lemmas.Option.{none-some, same_Some}
use Rattle.grove_tree.specs.Trees.{Rows, IsTree, parent_of, one_more, depth_within, depth_of}
use Rattle.grove_tree.proofs.Above.{parent_lt, parent_within, less_parents}
use Rattle.grove_plan.specs.declared.step.Step.{Step}
use Rattle.grove_plan.specs.declared.step.Step.TheVariants.{Lock, Unlock, Access}
use Rattle.grove_plan.specs.Plans.{IsLater, IsLegal}
use Rattle.grove_plan.proofs.Held.{HeldAt, held_at, lock_same, unlock_no_lock, access_no_lock}
use Rattle.grove_core.specs.Orders.{first_lock}
use Rattle.grove_tree.proofs.Depths.{depth_step}

-- a child is one deeper than its parent
pub depth_child : (rows : Rows) → IsTree rows → (node p : ℕ) → parent_of rows node ≡ Some p → depth_of rows node ≡ suc (depth_of rows p)
depth_child rows tree node p e = depth_step rows (length rows) (less_parents rows tree (length rows)) node p (parent_within rows node p e) e

-- a depth is at most the node's number
depth_le_at : (rows : Rows) (n node : ℕ) → ((p : ℕ) → parent_of rows node ≡ Some p → suc (depth_within rows n p) ≤ node)
    → (o : Option ℕ) → parent_of rows node ≡ o → one_more (depth_within rows n) o ≤ node
depth_le_at rows n node h None e = omega arith
depth_le_at rows n node h (Some p) e = h p e

-- no node lies deeper than its number
pub depth_le : (rows : Rows) → IsTree rows → (n node : ℕ) → depth_within rows n node ≤ node
depth_le rows tree zero node = omega arith
depth_le rows tree (suc n) node = depth_le_at rows n node
    (λ p e. let below : p < node = parent_lt rows tree node p e in let le : depth_within rows n p ≤ p = depth_le rows tree n p in omega arith)
    (parent_of rows node) refl

-- a lock is the first one or a later one
pub first_or_later : (plan : List Step) (i v : ℕ) → slice_get plan i ≡ Some (Lock v) → (first_lock plan ≡ Some v) ⊎ IsLater plan i
first_or_later [] i v h = absurd (none-some (Lock v) h)
first_or_later (Lock w ∷ plan) zero v h = inl (ap (λ (n : ℕ). Some n) (lock_same w v (same_Some (Lock w) (Lock v) h)))
first_or_later (Unlock w ∷ plan) zero v h = absurd (unlock_no_lock w v h)
first_or_later (Access a ∷ plan) zero v h = absurd (access_no_lock a v h)
first_or_later (Lock w ∷ plan) (suc i) v h = inr (0, w, omega arith, refl)
first_or_later (Unlock w ∷ plan) (suc i) v h = elim (first_or_later plan i v h) [
  | inl e ↦ inl e
  | inr l ↦ let lt : l.0 < i = l.2 in inr (suc l.0, l.1, omega arith, l.3)
]
first_or_later (Access a ∷ plan) (suc i) v h = elim (first_or_later plan i v h) [
  | inl e ↦ inl e
  | inr l ↦ let lt : l.0 < i = l.2 in inr (suc l.0, l.1, omega arith, l.3)
]

-- a plan without a first lock has no lock
pub no_first : (plan : List Step) (i v : ℕ) → first_lock plan ≡ None → slice_get plan i ≡ Some (Lock v) → ⊥
no_first [] i v e h = none-some (Lock v) h
no_first (Lock w ∷ plan) i v e h = none-some w (sym e)
no_first (Unlock w ∷ plan) zero v e h = unlock_no_lock w v h
no_first (Access a ∷ plan) zero v e h = access_no_lock a v h
no_first (Unlock w ∷ plan) (suc i) v e h = no_first plan i v e h
no_first (Access a ∷ plan) (suc i) v e h = no_first plan i v e h

-- the first lock is a lock
pub first_stands : (plan : List Step) (v : ℕ) → first_lock plan ≡ Some v → (i : ℕ) × (slice_get plan i ≡ Some (Lock v))
first_stands [] v e = absurd (none-some v e)
first_stands (Lock w ∷ plan) v e = (0, ap (λ (n : ℕ). Some (Lock n)) (same_Some w v e))
first_stands (Unlock w ∷ plan) v e = let found : (i : ℕ) × (slice_get plan i ≡ Some (Lock v)) = first_stands plan v e in (suc found.0, found.1)
first_stands (Access a ∷ plan) v e = let found : (i : ℕ) × (slice_get plan i ≡ Some (Lock v)) = first_stands plan v e in (suc found.0, found.1)

-- the parent of a node that is locked later is held then
pub record ParentHeld (rows : Rows) (plan : List Step) (node i : ℕ) : Type 0 where
  pub parent : ℕ
  pub is_parent : parent_of rows node ≡ Some parent
  pub hold : HeldAt plan parent i

-- a later lock has its node's parent held
pub parent_held : (rows : Rows) (nodes : List ℕ) (plan : List Step) → IsLegal rows nodes plan → (i node : ℕ) → slice_get plan i ≡ Some (Lock node)
    → IsLater plan i → ParentHeld rows plan node i
parent_held rows nodes plan legal i node h later = grind (arith, held_at)

-- no locked node is less deep than the first
pub deep : (rows : Rows) → IsTree rows → (nodes : List ℕ) (plan : List Step) → IsLegal rows nodes plan → (f : ℕ) → first_lock plan ≡ Some f
    → (bound i v : ℕ) → i < bound → slice_get plan i ≡ Some (Lock v) → depth_of rows f ≤ depth_of rows v
deep rows tree nodes plan legal f first zero i v lt h = absurd (omega arith)
deep rows tree nodes plan legal f first (suc bound) i v lt h = elim (first_or_later plan i v h) [
  | inl e ↦ let same : f ≡ v = same_Some f v (sym first ∙ e) in rw same (omega arith)
  | inr later ↦
      let up : ParentHeld rows plan v i = parent_held rows nodes plan legal i v h later in
      let before : up.hold.at < i = up.hold.before in
      let le : depth_of rows f ≤ depth_of rows up.parent = deep rows tree nodes plan legal f first bound up.hold.at up.parent (omega arith) up.hold.is_lock in
      omega (arith, depth_child rows tree v up.parent up.is_parent)
]
