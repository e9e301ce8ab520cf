-- The nodes that a list forces, by the tree: the tests and what they say, and the way from such a node to its parent.
use Rattle.std.proofs.Common.{◌≡◌, ℕ, ◌<◌, Bool, true, false, not, ◌&&◌, ◌⊎◌, List, length, get_or, Option, Some, None, refl, sym, ◌∙◌, subst, inl, inr, arith, suc, ◌++◌, zero}
use Rattle.std.specs.List.{slice_get}
use Rattle.std.proofs.lemmas.Option.{same_Some, slice_get_within, slice_get-get_or}
use Rattle.std.proofs.lemmas.Bool.{both_ways, and_parts, and_from, not-true, not-false, not_from_false, not_from_true, cases_Bool, cases_eq}
use Rattle.grove_base.specs.Numbers.{any_below, passing_below, alone}
use Rattle.grove_tree.specs.Trees.{Rows, parent_of, IsAbove, IsTree, is_above}
use Rattle.grove_base.proofs.Counting.{any_true, any_from, any_none, any_false, passing_got}
use Rattle.grove_tree.proofs.Above.{above_trans, above_step, above_within, parent_above, root_above}
use Rattle.grove_tree.proofs.Tests.{is_above_true, is_above_from}
use Rattle.grove_access.specs.Lists.{AreNodes}
use Rattle.grove_access.specs.Forced.{IsCommon, IsForcedByTree, covers, is_common, is_forced, forced_nodes}
use Rattle.grove_base.proofs.Lists.{get_append_left, get_last}

-- a number that passes is listed
pub passing_get : (n : ℕ) (test : ℕ → Bool) (x : ℕ) → x < n → test x ≡ true → (i : ℕ) × (slice_get (passing_below n test) i ≡ Some x)
passing_get zero test x lt h = absurd (omega arith)
passing_get (suc n) test x lt h = elim (cases_eq x n) [
  | inl e ↦ (
    length (passing_below n test),
    rw e (let hit : test n ≡ true = subst (λ (m : ℕ). test m ≡ true) e h in
        subst (λ (b : Bool). slice_get (passing_below n test ++ alone b n) (length (passing_below n test)) ≡ Some n) (sym hit) (get_last (passing_below n test) n)),
  )
  | inr ne ↦ let found : (i : ℕ) × (slice_get (passing_below n test) i ≡ Some x) = passing_get n test x (omega arith) h in
      (found.0, get_append_left (passing_below n test) (alone (test n) n) found.0 (slice_get_within (passing_below n test) found.0 x found.1) ∙ found.1)
]

-- The tests and what they say

-- the test of a target says that it is there and below
pub covers_true : (rows : Rows) (high : ℕ) (o : Option ℕ) → covers rows high o ≡ true → (low : ℕ) × (o ≡ Some low) × IsAbove rows high low
covers_true rows high (Some low) h = (low, refl, is_above_true rows high low h)
covers_true rows high None h = absurd (cc)

-- and in a tree such a target passes it
pub covers_from : (rows : Rows) (high low : ℕ) (o : Option ℕ) → IsTree rows → o ≡ Some low → IsAbove rows high low → covers rows high o ≡ true
covers_from rows high low o tree e h = rw e (is_above_from rows high low tree h)

-- the test of a common node says that it is above each target
pub is_common_true : (rows : Rows) (nodes : List ℕ) (node : ℕ) → is_common rows nodes node ≡ true → IsCommon rows nodes node
is_common_true rows nodes node h access target there =
    let none : any_below (length nodes) (λ a. not (covers rows node (slice_get nodes a))) ≡ false = not-true (any_below (length nodes) (λ a. not (covers rows node (slice_get nodes a)))) h in
    let miss : not (covers rows node (slice_get nodes access)) ≡ false = any_false (length nodes) (λ a. not (covers rows node (slice_get nodes a))) none access (slice_get_within nodes access target there) in
    grind (arith, covers_true, not-false, same_Some)

-- and in a tree such a node passes it
pub is_common_from : (rows : Rows) (nodes : List ℕ) (node : ℕ) → IsTree rows → IsCommon rows nodes node → is_common rows nodes node ≡ true
is_common_from rows nodes node tree h =
    not_from_false (any_below (length nodes) (λ a. not (covers rows node (slice_get nodes a))))
    (any_none (length nodes) (λ a. not (covers rows node (slice_get nodes a)))
    (λ a lt. let there : slice_get nodes a ≡ Some (get_or nodes a 0) = slice_get-get_or nodes a 0 lt in
    not_from_true (covers rows node (slice_get nodes a)) (covers_from rows node (get_or nodes a 0) (slice_get nodes a) tree there (h a (get_or nodes a 0) there))))

-- what is above a node of the list is a node of the tree
pub common_within : (rows : Rows) (nodes : List ℕ) (common access target : ℕ) → IsTree rows → AreNodes rows nodes → slice_get nodes access ≡ Some target → IsAbove rows common target → common < length rows
common_within rows nodes common access target tree fits names h = above_within rows tree common target h (fits access target names)

-- a forced node is a node of the tree
pub forced_within : (rows : Rows) (nodes : List ℕ) (node : ℕ) → IsTree rows → AreNodes rows nodes → IsForcedByTree rows nodes node → node < length rows
forced_within rows nodes node tree fits h = common_within rows nodes node h.access h.target tree fits h.names h.covers

-- some common node of the tree isn't above a node
abbrev misses : Rows → List ℕ → ℕ → ℕ → Bool
misses rows nodes node common = is_common rows nodes common && not (is_above rows common node)

-- the test of a forced node says that the tree forces it
pub forced_got : (rows : Rows) (nodes : List ℕ) (node : ℕ) → IsTree rows → AreNodes rows nodes → is_forced rows nodes node ≡ true → IsForcedByTree rows nodes node
forced_got rows nodes node tree fits h =
    let parts : (any_below (length nodes) (λ a. covers rows node (slice_get nodes a)) ≡ true) × (not (any_below (length rows) (misses rows nodes node)) ≡ true) =
    and_parts (any_below (length nodes) (λ a. covers rows node (slice_get nodes a))) (not (any_below (length rows) (misses rows nodes node))) h in
    let found : (a : ℕ) × (a < length nodes) × (covers rows node (slice_get nodes a) ≡ true) = any_true (length nodes) (λ a. covers rows node (slice_get nodes a)) parts.0 in
    let under : (low : ℕ) × (slice_get nodes found.0 ≡ Some low) × IsAbove rows node low = covers_true rows node (slice_get nodes found.0) found.2 in
    let none : any_below (length rows) (misses rows nodes node) ≡ false = not-true (any_below (length rows) (misses rows nodes node)) parts.1 in
    record {
      access = found.0;
      target = under.0;
      names = under.1;
      covers = under.2;
      below = λ common is.
          let within : common < length rows = common_within rows nodes common found.0 under.0 tree fits under.1 (is found.0 under.0 under.1) in
          elim (cases_Bool (is_above rows common node)) [
            | inl yes_above ↦ is_above_true rows common node yes_above
            | inr not_above ↦ absurd (both_ways (misses rows nodes node common)
                (any_false (length rows) (misses rows nodes node) none common within)
                (and_from (is_common rows nodes common) (not (is_above rows common node)) (is_common_from rows nodes common tree is) (not_from_false (is_above rows common node) not_above)))
          ];
    }

-- and such a node passes it
pub forced_get : (rows : Rows) (nodes : List ℕ) (node : ℕ) → IsTree rows → IsForcedByTree rows nodes node → is_forced rows nodes node ≡ true
forced_get rows nodes node tree h =
    and_from (any_below (length nodes) (λ a. covers rows node (slice_get nodes a))) (not (any_below (length rows) (misses rows nodes node)))
    (any_from (length nodes) (λ a. covers rows node (slice_get nodes a)) h.access (slice_get_within nodes h.access h.target h.names)
    (covers_from rows node h.target (slice_get nodes h.access) tree h.names h.covers))
    (not_from_false (any_below (length rows) (misses rows nodes node))
    (any_none (length rows) (misses rows nodes node) (λ common lt. elim (cases_Bool (misses rows nodes node common)) [
      | inr none ↦ none
      | inl some ↦
          let parts : (is_common rows nodes common ≡ true) × (not (is_above rows common node) ≡ true) = and_parts (is_common rows nodes common) (not (is_above rows common node)) some in
          absurd (both_ways (is_above rows common node) (not-true (is_above rows common node) parts.1)
          (is_above_from rows common node tree (h.below common (is_common_true rows nodes common parts.0))))
    ])))

-- The listed nodes are the forced ones

-- a forced node is listed
pub forced_listed : (rows : Rows) (nodes : List ℕ) (node : ℕ) → IsTree rows → AreNodes rows nodes → IsForcedByTree rows nodes node → (i : ℕ) × (slice_get (forced_nodes rows nodes) i ≡ Some node)
forced_listed rows nodes node tree fits h = passing_get (length rows) (is_forced rows nodes) node (forced_within rows nodes node tree fits h) (forced_get rows nodes node tree h)

-- and a listed node is forced
pub listed_forced : (rows : Rows) (nodes : List ℕ) (i node : ℕ) → IsTree rows → AreNodes rows nodes → slice_get (forced_nodes rows nodes) i ≡ Some node → IsForcedByTree rows nodes node
listed_forced rows nodes i node tree fits h = forced_got rows nodes node tree fits (passing_got (length rows) (is_forced rows nodes) i node h).1

-- Accessed nodes, and parents

-- an accessed node is forced
pub accessed_is_forced : (rows : Rows) (nodes : List ℕ) (access node : ℕ) → slice_get nodes access ≡ Some node → IsForcedByTree rows nodes node
accessed_is_forced rows nodes access node h = grind (arith)

-- the root is above every node of a list
pub root_is_common : (rows : Rows) (nodes : List ℕ) → IsTree rows → AreNodes rows nodes → IsCommon rows nodes 0
root_is_common rows nodes tree fits access target h = root_above rows tree target (fits access target h)

-- a forced node is above every accessed node, or its parent is forced too
pub forced_step : (rows : Rows) (nodes : List ℕ) (node : ℕ) → IsTree rows → AreNodes rows nodes → IsForcedByTree rows nodes node
    → IsCommon rows nodes node ⊎ ((p : ℕ) × (parent_of rows node ≡ Some p) × IsForcedByTree rows nodes p)
forced_step rows nodes node tree fits h = elim (cases_Bool (is_common rows nodes node)) [
  | inl common ↦ inl (is_common_true rows nodes node common)
  | inr other ↦ elim (above_step rows 0 node (h.below 0 (root_is_common rows nodes tree fits))) [
    | inl e ↦ inl (subst (λ (v : ℕ). IsCommon rows nodes v) e (root_is_common rows nodes tree fits))
    | inr under ↦ inr (
      under.0,
      under.1,
      record {
        access = h.access;
        target = h.target;
        names = h.names;
        covers = above_trans rows under.0 node h.target (parent_above rows node under.0 under.1) h.covers;
        below = λ common is. elim (above_step rows common node (h.below common is)) [
          | inl e ↦ absurd (both_ways (is_common rows nodes node) other (is_common_from rows nodes node tree (subst (λ (v : ℕ). IsCommon rows nodes v) e is)))
          | inr over ↦ subst (λ (p : ℕ). IsAbove rows common p) (same_Some over.0 under.0 (sym over.1 ∙ under.1)) over.2
        ];
      },
    )
  ]
]
