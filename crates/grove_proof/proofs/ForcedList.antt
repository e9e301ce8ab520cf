-- Ascending lists with the same members are one, so the list of the forced nodes is the one that the tree tells.
use Rattle.std.proofs.Common.{◌≡◌, ℕ, zero, suc, ◌<◌, ◌⊎◌, List, [], ◌∷◌, length, refl, sym, subst, inl, inr, arith}
use Rattle.std.proofs.lemmas.Option.{none-some, same_Some}
use Rattle.grove_tree.specs.Trees.{Rows, IsTree}
use Rattle.grove_base.proofs.Counting.{passing_rises}
use Rattle.grove_access.specs.Lists.{AreNodes}
use Rattle.grove_access.specs.Forced.{is_forced, forced_nodes}
use Rattle.grove_access.proofs.ForcedByTree.{forced_listed, listed_forced}
use Rattle.grove_proof.specs.Forced.{Ascends, IsAmong, IsForcedList}
use Rattle.grove_proof.specs.Laws.{ForcedIsByTree, ForcedListIsByTree}
use Rattle.grove_proof.proofs.EveryPlanLocks.{by_tree_is_forced}
use Rattle.grove_proof.proofs.WidestPlan.{forced_is_by_tree_alone}

-- the rest of an ascending list ascends
ascends_rest : (x : ℕ) (xs : List ℕ) → Ascends (x ∷ xs) → Ascends xs
ascends_rest x xs up i j a b lt h k = up (suc i) (suc j) a b (omega arith) h k

-- a member of a list is its first item or one of the rest
among_cases : (x : ℕ) (xs : List ℕ) (z : ℕ) → IsAmong (x ∷ xs) z → (x ≡ z) ⊎ IsAmong xs z
among_cases x xs z (zero, h) = inl (same_Some x z h)
among_cases x xs z (suc k, h) = inr (k, h)

-- the rest of an ascending list is above its first item
above_first : (x : ℕ) (xs : List ℕ) → Ascends (x ∷ xs) → (z : ℕ) → IsAmong xs z → x < z
above_first x xs up z at = up 0 (suc at.0) x z (omega arith) refl at.1

-- of two ascending lists with the same members, the first items are one
first_same : (x y : ℕ) (xs ys : List ℕ) → Ascends (x ∷ xs) → Ascends (y ∷ ys) → IsAmong (y ∷ ys) x → IsAmong (x ∷ xs) y → x ≡ y
first_same x y xs ys up_x up_y h k = elim (among_cases y ys x h) [
  | inl e ↦ sym e
  | inr later ↦ elim (among_cases x xs y k) [
    | inl e ↦ e
    | inr other ↦ absurd (omega (arith, above_first y ys up_y x later, above_first x xs up_x y other))
  ]
]

-- the members of the rest
rest_among : (x : ℕ) (xs ys : List ℕ) → Ascends (x ∷ xs) → ((z : ℕ) → IsAmong (x ∷ xs) z → IsAmong (x ∷ ys) z) → (z : ℕ) → IsAmong xs z → IsAmong ys z
rest_among x xs ys up h z at = elim (among_cases x ys z (h z (suc at.0, at.1))) [
  | inl e ↦ let lt : x < z = above_first x xs up z at in absurd (omega arith)
  | inr there ↦ there
]

-- ascending lists with the same members are one
pub ascending_same : (xs ys : List ℕ) → Ascends xs → Ascends ys → ((z : ℕ) → IsAmong xs z → IsAmong ys z) → ((z : ℕ) → IsAmong ys z → IsAmong xs z) → xs ≡ ys
ascending_same [] [] up_x up_y h k = refl
ascending_same [] (y ∷ ys) up_x up_y h k = absurd (none-some y (k y (0, refl)).1)
ascending_same (x ∷ xs) [] up_x up_y h k = absurd (none-some x (h x (0, refl)).1)
ascending_same (x ∷ xs) (y ∷ ys) up_x up_y h k =
    let e : x ≡ y = first_same x y xs ys up_x up_y (h x (0, refl)) (k y (0, refl)) in
    let up : Ascends (x ∷ ys) = subst (λ (w : ℕ). Ascends (w ∷ ys)) (sym e) up_y in
    let rest : xs ≡ ys = ascending_same xs ys (ascends_rest x xs up_x) (ascends_rest y ys up_y)
    (rest_among x xs ys up_x (λ z at. subst (λ (w : ℕ). IsAmong (w ∷ ys) z) (sym e) (h z at)))
    (rest_among x ys xs up (λ z at. k z (subst (λ (w : ℕ). IsAmong (w ∷ ys) z) e at))) in
    cc

-- the nodes that every legal plan locks are those that the tree tells
pub forced_is_by_tree : ForcedIsByTree
forced_is_by_tree rows nodes node tree fits = (forced_is_by_tree_alone rows nodes node tree fits, by_tree_is_forced rows nodes node tree)

-- the nodes that the tree forces, in ascending order, are the forced ones
pub forced_nodes_are_list : (rows : Rows) (nodes : List ℕ) → IsTree rows → AreNodes rows nodes → IsForcedList rows nodes (forced_nodes rows nodes)
forced_nodes_are_list rows nodes tree fits = record {
  ascends = λ i j a b lt h k. passing_rises (length rows) (is_forced rows nodes) i j a b lt h k;
  forced = λ node. (
    λ at. by_tree_is_forced rows nodes node tree (listed_forced rows nodes at.0 node tree fits at.1),
    λ is. forced_listed rows nodes node tree fits (forced_is_by_tree_alone rows nodes node tree fits is),
  );
}

-- two lists of the forced nodes are one
pub forced_lists_same : (rows : Rows) (nodes xs ys : List ℕ) → IsForcedList rows nodes xs → IsForcedList rows nodes ys → xs ≡ ys
forced_lists_same rows nodes xs ys h k = ascending_same xs ys h.ascends k.ascends
    (λ z at. (k.forced z).1 ((h.forced z).0 at)) (λ z at. (h.forced z).1 ((k.forced z).0 at))

-- and their list is that of the tree
pub forced_list_is_by_tree : ForcedListIsByTree
forced_list_is_by_tree rows nodes list tree fits = (
  λ h. forced_lists_same rows nodes list (forced_nodes rows nodes) h (forced_nodes_are_list rows nodes tree fits),
  λ e. subst (λ (xs : List ℕ). IsForcedList rows nodes xs) (sym e) (forced_nodes_are_list rows nodes tree fits),
)
