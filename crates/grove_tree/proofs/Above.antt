-- Going up a tree: the node so many steps up from a node, and what is above it.
use Rattle.std.proofs.Common.{◌≡◌, ℕ, zero, suc, ◌+◌, ◌-◌, ◌<◌, ◌≤◌, ◌⊎◌, length, Option, Some, None, refl, sym, ◌∙◌, ap, inl, inr, zero-add, arith, subst}
use Rattle.std.specs.Option.{option_and_then}
use Rattle.std.proofs.lemmas.Option.{none-some, same_Some, slice_get_past, option_and_then_some}
use Rattle.std.proofs.lemmas.Bool.{cases_lt}
use Rattle.grove_tree.specs.Trees.{Rows, parent_of, up, IsAbove, IsTree}

-- a step up from an earlier node is a step up from here
pub up_add : (rows : Rows) (m n v a : ℕ) → up rows m v ≡ Some a → up rows (n + m) v ≡ up rows n a
up_add rows m zero v a h = rw zero-add h
up_add rows m (suc n) v a h =
    let e : suc n + m ≡ suc (n + m) = omega arith in
    rw e (ap (λ (o : Option ℕ). option_and_then (parent_of rows) o) (up_add rows m n v a h))

-- what is above is above what it is above of
pub above_trans : (rows : Rows) (a b c : ℕ) → IsAbove rows a b → IsAbove rows b c → IsAbove rows a c
above_trans rows a b c h k = (h.0 + k.0, up_add rows k.0 h.0 c b k.1 ∙ h.1)

-- a node is above itself
pub above_self : (rows : Rows) (v : ℕ) → IsAbove rows v v
above_self rows v = (0, refl)

-- the way up from a node goes over its parent
pub up_from_parent : (rows : Rows) (n v p : ℕ) → parent_of rows v ≡ Some p → up rows (suc n) v ≡ up rows n p
up_from_parent rows n v p h = let e : n + 1 ≡ suc n = omega arith in rw e at (up_add rows 1 n v p h)

-- above a node without a parent there is nothing
pub up_none : (rows : Rows) (n v : ℕ) → parent_of rows v ≡ None → up rows (suc n) v ≡ None
up_none rows zero v h = h
up_none rows (suc n) v h = ap (λ (o : Option ℕ). option_and_then (parent_of rows) o) (up_none rows n v h)

-- a node that has a parent is a node of the tree
pub parent_within : (rows : Rows) (v p : ℕ) → parent_of rows v ≡ Some p → v < length rows
parent_within rows v p h = grind (arith, cases_lt, none-some, slice_get_past)

-- the parent of a node is above it
pub parent_above : (rows : Rows) (v p : ℕ) → parent_of rows v ≡ Some p → IsAbove rows p v
parent_above rows v p h = (1, h)

-- where parents are smaller below a bound, n steps up lead at least n down in number
pub up_le_from : (rows : Rows) (bound : ℕ) → ((v p : ℕ) → v < bound → parent_of rows v ≡ Some p → p < v)
    → (n v b : ℕ) → v < bound → up rows n v ≡ Some b → b + n ≤ v
up_le_from rows bound less zero v b lt h = let e : v ≡ b = same_Some v b h in omega arith
up_le_from rows bound less (suc n) v b lt h =
    option_and_then_some (parent_of rows) (up rows n v) b h
    (λ x there step.
    grind (arith, up_le_from rows bound less n v x lt there))

-- parents are smaller, below a bound
pub less_parents : (rows : Rows) → IsTree rows → (bound v p : ℕ) → v < bound → parent_of rows v ≡ Some p → p < v
less_parents rows tree zero v p lt h = absurd (omega arith)
less_parents rows tree (suc bound) zero p lt h = absurd (none-some p (sym tree.root ∙ h))
less_parents rows tree (suc bound) (suc u) p lt h =
    let place : (parent : ℕ) × (parent_of rows (suc u) ≡ Some parent) × IsAbove rows parent u = tree.preorder u (parent_within rows (suc u) p h) in
    let e : place.0 ≡ p = same_Some place.0 p (sym place.1 ∙ h) in
    omega (arith, up_le_from rows bound (less_parents rows tree bound) place.2.0 u place.0 (omega arith) place.2.1)

-- a parent has a smaller number
pub parent_lt : (rows : Rows) → IsTree rows → (v p : ℕ) → parent_of rows v ≡ Some p → p < v
parent_lt rows tree v p h = less_parents rows tree (suc v) v p (omega arith) h

-- n steps up lead at least n down in number
pub up_le : (rows : Rows) → IsTree rows → (n v b : ℕ) → up rows n v ≡ Some b → b + n ≤ v
up_le rows tree n v b h = up_le_from rows (suc v) (less_parents rows tree (suc v)) n v b (omega arith) h

-- what is above has no greater number
pub above_le : (rows : Rows) → IsTree rows → (a b : ℕ) → IsAbove rows a b → a ≤ b
above_le rows tree a b h = let le : a + h.0 ≤ b = up_le rows tree h.0 b a h.1 in omega arith

-- two nodes above each other are one
pub above_same : (rows : Rows) → IsTree rows → (a b : ℕ) → IsAbove rows a b → IsAbove rows b a → a ≡ b
above_same rows tree a b h k = omega (arith, above_le rows tree a b h, above_le rows tree b a k)

-- of two places on one way up, the farther is reached from the nearer
pub above_linear : (rows : Rows) (m n v a b : ℕ) → up rows m v ≡ Some a → up rows n v ≡ Some b → m ≤ n → up rows (n - m) a ≡ Some b
above_linear rows m n v a b h k le = grind (arith, up_add)

-- of two nodes above a third one, one is above the other
pub above_either : (rows : Rows) (a b v : ℕ) → IsAbove rows a v → IsAbove rows b v → IsAbove rows a b ⊎ IsAbove rows b a
above_either rows a b v h k = elim (cases_lt h.0 k.0) [
  | inl y ↦ inr (k.0 - h.0, above_linear rows h.0 k.0 v a b h.1 k.1 (omega arith))
  | inr y ↦ inl (h.0 - k.0, above_linear rows k.0 h.0 v b a k.1 h.1 y)
]

above_step_by : (rows : Rows) (a v n : ℕ) → up rows (suc n) v ≡ Some a → (o : Option ℕ) → parent_of rows v ≡ o
    → (a ≡ v) ⊎ ((p : ℕ) × (parent_of rows v ≡ Some p) × IsAbove rows a p)
above_step_by rows a v n h None e = absurd (none-some a (sym (up_none rows n v e) ∙ h))
above_step_by rows a v n h (Some p) e = inr (p, e, (n, sym (up_from_parent rows n v p e) ∙ h))

-- what is above a node is the node or above its parent
pub above_step : (rows : Rows) (a v : ℕ) → IsAbove rows a v → (a ≡ v) ⊎ ((p : ℕ) × (parent_of rows v ≡ Some p) × IsAbove rows a p)
above_step rows a v (zero, h) = inl (sym (same_Some v a h))
above_step rows a v (suc n, h) = above_step_by rows a v n h (parent_of rows v) refl

-- what is above a parent is above its child
pub above_child : (rows : Rows) (a v p : ℕ) → parent_of rows v ≡ Some p → IsAbove rows a p → IsAbove rows a v
above_child rows a v p h k = above_trans rows a p v k (1, h)

-- the root is above every node of the tree, below a bound
root_above_within : (rows : Rows) → IsTree rows → (bound v : ℕ) → v < bound → v < length rows → IsAbove rows 0 v
root_above_within rows tree zero v lt within = absurd (omega arith)
root_above_within rows tree (suc bound) zero lt within = (0, refl)
root_above_within rows tree (suc bound) (suc u) lt within =
    let place : (parent : ℕ) × (parent_of rows (suc u) ≡ Some parent) × IsAbove rows parent u = tree.preorder u within in
    let le : place.0 ≤ u = above_le rows tree place.0 u place.2 in
    above_child rows 0 (suc u) place.0 place.1 (root_above_within rows tree bound place.0 (omega arith) (omega arith))

-- the root is above every node of the tree
pub root_above : (rows : Rows) → IsTree rows → (v : ℕ) → v < length rows → IsAbove rows 0 v
root_above rows tree v within = root_above_within rows tree (suc v) v (omega arith) within

-- what is above a node of the tree is a node of the tree
pub above_within : (rows : Rows) → IsTree rows → (a v : ℕ) → IsAbove rows a v → v < length rows → a < length rows
above_within rows tree a v h within = let le : a ≤ v = above_le rows tree a v h in omega arith

-- what is above a node, and not the node, is above its parent
pub above_parent : (rows : Rows) (high low parent : ℕ) → parent_of rows low ≡ Some parent → (high ≡ low → ⊥) → IsAbove rows high low → IsAbove rows high parent
above_parent rows high low parent own other way = elim (above_step rows high low way) [
  | inl same ↦ absurd (other same)
  | inr (p, is, rest) ↦ subst (λ (q : ℕ). IsAbove rows high q) (same_Some _ _ (sym is ∙ own)) rest
]

-- a node without a parent has only itself above it
pub above_top : (rows : Rows) (high low : ℕ) → parent_of rows low ≡ None → IsAbove rows high low → high ≡ low
above_top rows high low own way = elim (above_step rows high low way) [
  | inl same ↦ same
  | inr (p, is, rest) ↦ absurd (none-some p (sym own ∙ is))
]

-- what is above a node is above the rows between them
pub above_between : (rows : Rows) → IsTree rows → (high low between : ℕ) → low < length rows → IsAbove rows high low → high ≤ between → between ≤ low → IsAbove rows high between
above_between rows tree high zero between within way from to = let e : between ≡ zero = omega arith in rw e way
above_between rows tree high (suc low) between within way from to = elim (cases_lt between (suc low)) [
  | inl less ↦ elim (above_step rows high (suc low) way) [
    | inl same ↦ absurd (omega arith)
    | inr (p, own, rest) ↦
        let (parent, is, before) = tree.preorder low within in
        let e : p ≡ parent = same_Some _ _ (sym own ∙ is) in
        let on = above_trans rows high parent low (rw e at rest) before in
        above_between rows tree high low between (omega arith) on from (omega arith)
  ]
  | inr past ↦ let e : between ≡ suc low = omega arith in rw e way
]
