-- The way down a path: each node with the path is below the node that was reached.
use Rattle.std.proofs.Common.{◌≡◌, ℕ, zero, suc, ◌<◌, ◌⊎◌, true, List, [], ◌∷◌, ◌++◌, length, Some, sym, ◌∙◌, ap, inl}
use Rattle.std.proofs.Common.{inr, append_assoc, append-nil, arith}
use Rattle.std.specs.List.{list_all}
use Rattle.std.proofs.lemmas.Option.{same_Some, none-some, option_and_then_some}
use Rattle.std.proofs.lemmas.List.{append_cancel_left}
use Rattle.grove_tree.specs.Trees.{Rows, parent_of, name_of, up, IsAbove, IsTree}
use Rattle.grove_tree.specs.Rules.{is_name_byte, IsWithinLimits}
use Rattle.grove_tree.specs.PathRests.{GoesOn, IsChildOn}
use Rattle.grove_tree.proofs.Above.{parent_within, root_above}
use Rattle.grove_tree.proofs.Names.{names_of, names_step, names_root}
use Rattle.grove_tree.proofs.PathParts.{tail_same, names_above_by, cut_same, name_bytes}

-- the way up to a node comes over one of its children, where it is not the node itself
pub way_first : (rows : Rows) (high low : ℕ) → IsAbove rows high low → (high ≡ low) ⊎ ((child : ℕ) × (parent_of rows child ≡ Some high) × IsAbove rows child low)
way_first rows high low (zero, h) = inl (sym (same_Some _ _ h))
way_first rows high low (suc n, h) = inr (option_and_then_some (parent_of rows) (up rows n low) high h (λ (m : ℕ) way own. (m, own, (n, way))))

-- the names of a node go on, below a node above it, with the name of the child between
pub goes_below : (rows : Rows) → IsTree rows → (high child low : ℕ) (rest : List ℕ) → parent_of rows child ≡ Some high → IsAbove rows child low
    → names_of rows high ++ rest ≡ names_of rows low → (more : List ℕ) × GoesOn rest (name_of rows child) more
goes_below rows tree high child low rest own way same =
    let (more, is_rest, is) = names_above_by rows tree way.0 child low way.1 in
    let longer = names_step rows tree child high own in
    let e : names_of rows high ++ rest ≡ names_of rows high ++ (47 ∷ name_of rows child ++ more) =
    same ∙ is ∙ ap (λ (bytes : List ℕ). bytes ++ more) longer ∙ append_assoc (names_of rows high) (47 ∷ name_of rows child) more in
    (more, (is_rest, append_cancel_left (names_of rows high) rest (47 ∷ name_of rows child ++ more) e))

-- a node with a parent has a name without a slash
pub named : (rows : Rows) → IsTree rows → IsWithinLimits rows → (node parent : ℕ) → parent_of rows node ≡ Some parent → list_all is_name_byte (name_of rows node) ≡ true
named rows tree limits zero parent own = absurd (none-some parent (sym tree.root ∙ own))
named rows tree limits (suc node) parent own = name_bytes (name_of rows (suc node)) (limits.names node (parent_within rows (suc node) parent own))

-- a node reached on the way down a path, with what is left of the path
pub record IsFinding (rows : Rows) (path rest : List ℕ) (at : ℕ) : Type 0 where
  pub within : at < length rows
  pub spelled : names_of rows at ++ rest ≡ path
  pub only : (node : ℕ) → node < length rows → names_of rows node ≡ path → IsAbove rows at node

-- the root
pub finding_root : (rows : Rows) (path : List ℕ) → IsTree rows → IsFinding rows path path 0
finding_root rows path tree = grind (arith, names_root, root_above)

no_nil : {a : ℕ} {xs : List ℕ} → [] ≡ a ∷ xs → ⊥
no_nil h = cc

not_empty_here : (names rest : List ℕ) → names ++ rest ≡ names → rest ≡ []
not_empty_here names rest e = append_cancel_left names rest [] (e ∙ sym (append-nil names))

-- of a node's children just one has the name that the path goes on with
only_child : (rows : Rows) (path rest below : List ℕ) (at child : ℕ) → IsTree rows → IsWithinLimits rows → IsFinding rows path rest at → (rest ≡ [] → ⊥)
    → IsChildOn rows at rest child below
    → (node : ℕ) → node < length rows → names_of rows node ≡ path → IsAbove rows child node
only_child rows path rest below at child tree limits finding some (own, goes) node within is = elim (way_first rows at node (finding.only node within is)) [
  | inl here ↦ absurd (some (not_empty_here (names_of rows at) rest (finding.spelled ∙ sym is ∙ ap (λ (v : ℕ). names_of rows v) (sym here))))
  | inr (other, own2, way) ↦ grind (arith, cut_same, goes_below, named, tail_same)
]

-- on to the child
pub finding_child : (rows : Rows) (path rest below : List ℕ) (at child : ℕ) → IsTree rows → IsWithinLimits rows → IsFinding rows path rest at → (rest ≡ [] → ⊥)
    → IsChildOn rows at rest child below → IsFinding rows path below child
finding_child rows path rest below at child tree limits finding some (own, goes) = record {
  within = parent_within rows child at own;
  spelled = ap (λ (bytes : List ℕ). bytes ++ below) (names_step rows tree child at own) ∙ append_assoc (names_of rows at) (47 ∷ name_of rows child) below
      ∙ ap (λ (bytes : List ℕ). names_of rows at ++ bytes) (sym goes.1) ∙ finding.spelled;
  only = only_child rows path rest below at child tree limits finding some (own, goes);
}

-- where no child's name comes next, no node has the path
pub finding_stuck : (rows : Rows) (path rest : List ℕ) (at : ℕ) → IsTree rows → IsFinding rows path rest at → (rest ≡ [] → ⊥)
    → ((child : ℕ) (more : List ℕ) → IsChildOn rows at rest child more → ⊥)
    → (node : ℕ) → node < length rows → names_of rows node ≡ path → ⊥
finding_stuck rows path rest at tree finding some none node within is = elim (way_first rows at node (finding.only node within is)) [
  | inl here ↦ some (not_empty_here (names_of rows at) rest (finding.spelled ∙ sym is ∙ ap (λ (v : ℕ). names_of rows v) (sym here)))
  | inr (child, own, way) ↦ grind (arith, goes_below)
]

-- where nothing is left of the path, the node has it, and no other node does
pub finding_end : (rows : Rows) (path : List ℕ) (at : ℕ) → IsTree rows → IsFinding rows path [] at
    → (names_of rows at ≡ path) × ((node : ℕ) → node < length rows → names_of rows node ≡ path → at ≡ node)
finding_end rows path at tree finding = (
  sym (append-nil (names_of rows at)) ∙ finding.spelled,
  λ node within is. elim (way_first rows at node (finding.only node within is)) [
    | inl here ↦ here
    | inr (child, own, way) ↦ grind (arith, goes_below, no_nil)
  ],
)
