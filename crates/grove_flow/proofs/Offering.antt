-- The queue: what a heap holds, seen through a function of its items, and the arcs that are put in at a variable one after another.
use Rattle.std.proofs.Common.{◌≡◌, ℕ, ◌≤◌, ◌⊎◌, suc, zero, List, [], ◌∷◌, map, refl, inl, inr, sym, false, arith, ◌≢◌, ◌+◌, ◌<◌, length, slice_index, slice_index_or, Option, Some, None, MatchOption, ap, eq-eqb}
use Rattle.std.specs.List.{AllByRecursion, Contains}
use Rattle.std.specs.List.Sorted.{IsPermutation}
use Rattle.std.specs.Ordering.{is_lt, nat_cmp, ordering_then}
use Rattle.std.specs.declared.cmp.Ordering.{Ordering}
use Rattle.std.specs.declared.cmp.Ordering.TheVariants.{Less, Equal, Greater}
use Rattle.std.proofs.lemmas.List.Elements.{All-from_recursion, All-contains, Contains-append_left, Contains-append_right, Contains-append_cases, Contains-push}
use Rattle.std.proofs.lemmas.List.Sorted.{Contains-permutation, IsPermutation-map}
use Rattle.std.proofs.lemmas.Map.Keys.{ge_from_not_lt}
use Rattle.std.proofs.lemmas.Bool.{cases_eq, cases_lt, cases_order, both_ways}
use Rattle.std.specs.Option.{option_eq}
use lib.Dec.{eqb}
use Rattle.std.proofs.lemmas.List.{get_or_read}
use Rattle.grove_flow.specs.declared.network.Network.{Network}
use Rattle.grove_flow.specs.declared.fan.Fan.{Fan}
use Rattle.grove_flow.specs.declared.fan.Fans.{Fans}
use Rattle.grove_flow.specs.declared.queue.Queue.{Queue}
use Rattle.grove_flow.specs.declared.state.State.{State}
use Rattle.grove_flow.specs.declared.tree.Tree.{Tree}
use Rattle.grove_flow.specs.Networks.{arc_at}
use Rattle.grove_flow.specs.Fans.{end_of, IsLastArcAt, IsFan, AreFans}
use Rattle.grove_flow.specs.Queues.{HasEntry, AreQueued, AreQueuedPast, NamesArcsAlone}
use Rattle.grove_flow.specs.Reaches.{IsNoStep}
use Rattle.grove_flow.specs.Trees.{IsLive}
use Rattle.grove_flow.proofs.Growing.{key_same, no_key}

module _ {X Y : Type 0} (f : X → Y) where
  -- the item that went in or came out is held
  pub held_first : (x : X) (xs ys : List X) → IsPermutation (x ∷ xs) ys → Contains (map f ys) (f x)
  held_first x xs ys p = Contains-permutation (map f (x ∷ xs)) (map f ys) (f x) (IsPermutation-map f (x ∷ xs) ys p)
      (Contains-append_left (f x ∷ []) (map f xs) (f x) (Contains-push [] (f x)))

  -- so are the others
  pub held_rest : (x : X) (xs ys : List X) (e : Y) → IsPermutation (x ∷ xs) ys → Contains (map f xs) e → Contains (map f ys) e
  held_rest x xs ys e p h = Contains-permutation (map f (x ∷ xs)) (map f ys) e (IsPermutation-map f (x ∷ xs) ys p) (Contains-append_right (f x ∷ []) (map f xs) e h)

  -- and no more
  pub held_cases : (x : X) (xs ys : List X) (e : Y) → IsPermutation ys (x ∷ xs) → Contains (map f ys) e → (e ≡ f x) ⊎ Contains (map f xs) e
  held_cases x xs ys e p h =
      elim (Contains-append_cases (f x ∷ []) (map f xs) e (Contains-permutation (map f ys) (map f (x ∷ xs)) e (IsPermutation-map f ys (x ∷ xs) p) h)) [
        | inl (zero, lt, is) ↦ inl (sym is)
        | inl (suc k, lt, is) ↦ absurd (omega arith)
        | inr rest ↦ inr rest
      ]

first_not_lt : (a b : Ordering) → is_lt (ordering_then a b) ≡ false → is_lt a ≡ false
first_not_lt Less b e = e
first_not_lt Equal b e = refl
first_not_lt Greater b e = refl

-- what comes out of a heap that turns the order about has the least key
module _ {X : Type 0} (f : X → ℕ × ℕ) where
  all_above : (x : X) (xs : List X) → AllByRecursion (λ y. is_lt (ordering_then (nat_cmp (f y).0 (f x).0) (nat_cmp (f y).1 (f x).1)) ≡ false) xs
      → AllByRecursion (λ (e : ℕ × ℕ). (f x).0 ≤ e.0) (map f xs)
  all_above x [] h = tt
  all_above x (y ∷ ys) h = (ge_from_not_lt (f y).0 (f x).0 (first_not_lt _ _ h.0), all_above x ys h.1)

  pub least_key : (x : X) (xs : List X) (e : ℕ × ℕ) → AllByRecursion (λ y. is_lt (ordering_then (nat_cmp (f y).0 (f x).0) (nat_cmp (f y).1 (f x).1)) ≡ false) xs
      → Contains (map f xs) e → (f x).0 ≤ e.0
  least_key x xs e h has = All-contains (λ (e : ℕ × ℕ). (f x).0 ≤ e.0) (map f xs) e (All-from_recursion (λ (e : ℕ × ℕ). (f x).0 ≤ e.0) (map f xs) (all_above x xs h)) has

-- past the arc that a chain has come to
abbrev pub past : Option ℕ → ℕ
past None = 0
past (Some i) = i + 1

-- the arcs of a chain from the bound on were put in
pub record IsOffered (network : Network) (state : State) (tree : Tree) (fan : Fan) (v : ℕ) (old new : Queue) (next : Option ℕ) : Type 0 where
  pub bound : ℕ
  pub bound_le : bound ≤ length network.arcs.items
  pub last : IsLastArcAt fan.end network.arcs.items bound v next
  pub kept : (i key : ℕ) → HasEntry old key i → HasEntry new key i
  pub added : (i key : ℕ) → bound ≤ i → IsLive network state tree i key → end_of fan.end (arc_at network.arcs.items i) ≡ v → HasEntry new key i
  pub within : NamesArcsAlone network new

-- an arc is in the queue at one key alone
pub key_once : {network : Network} {state : State} {tree : Tree} {i k l : ℕ} → IsLive network state tree i k → IsLive network state tree i l → k ≡ l
key_once {network} {state} {tree} {i} {k} {l} h j = grind (arith, key_same)

pub not_live : {network : Network} {state : State} {tree : Tree} {i key : ℕ} → IsNoStep (arc_at network.arcs.items i) (slice_index state.amounts.items i) tree.ranks.items
    → IsLive network state tree i key → ⊥
not_live {state} {tree} {key} none h = no_key state.places.items tree.entries.items key none h.is

-- what is known of an arc's key
live_answer : {network : Network} {state : State} {tree : Tree} {i key : ℕ} (answer : Option ℕ)
    → MatchOption answer (IsNoStep (arc_at network.arcs.items i) (slice_index state.amounts.items i) tree.ranks.items) (λ k. IsLive network state tree i k)
    → IsLive network state tree i key → answer ≡ Some key
live_answer None none h = absurd (not_live none h)
live_answer (Some k) here h = ap Some (key_once here h)

-- an entry with another key than its arc has is none that leads on
pub dead : {network : Network} {state : State} {tree : Tree} (i key : ℕ) (answer : Option ℕ)
    → MatchOption answer (IsNoStep (arc_at network.arcs.items i) (slice_index state.amounts.items i) tree.ranks.items) (λ k. IsLive network state tree i k)
    → false ≡ option_eq eqb answer (Some key) → {j k : ℕ} → (k ≡ key) × (j ≡ i) → IsLive network state tree j k → ⊥
dead {network} {state} {tree} i key answer known differs {k} (k_is, j_is) h =
    grind (arith, both_ways, eq-eqb, live_answer)

-- one arc of the chain more
pub offered_more : {network : Network} {state : State} {tree : Tree} {fan : Fan} {v : ℕ} {old mid : Queue} (new : Queue) {at : Option ℕ} (i : ℕ) (next : Option ℕ)
    → IsFan fan.end network fan → at ≡ Some i → IsOffered network state tree fan v old mid at → next ≡ slice_index_or fan.before.items i next
    → ((k a : ℕ) → HasEntry mid k a → HasEntry new k a)
    → ((key : ℕ) → IsLive network state tree i key → HasEntry new key i) → NamesArcsAlone network new
    → IsOffered network state tree fan v old new next
offered_more {network} {state} {tree} {fan} {v} new i next is_fan is h read kept here within =
    let (i_lt, ends, none) : (i < h.bound) × (end_of fan.end (arc_at network.arcs.items i) ≡ v) × ((k : ℕ) → i < k → k < h.bound → end_of fan.end (arc_at network.arcs.items k) ≢ v) =
    rw is at h.last in
    let next_is : next ≡ slice_index_or fan.before.items i None = get_or_read fan.before.items i next (omega arith) read None in
    record {
      bound = i;
      bound_le = omega arith;
      last = rw next_is (rw ends at (is_fan.linked.before_is i (omega arith)));
      kept = λ k key held. kept key k (h.kept k key held);
      added = λ k key le live there. elim (cases_order k i) [
        | inl e ↦ rw e (here key (rw e at live))
        | inr (inl less) ↦ absurd (omega arith)
        | inr (inr more) ↦ grind (arith, cases_lt)
      ];
      within = within;
    }

-- all at once: what was in the queue past v, and what was added at v
pub queued_both : {network : Network} (state : State) (tree : Tree) {fans : Fans} (v : ℕ) (old mid new : Queue) → AreFans network fans → AreQueuedPast v network state tree old
    → ((i key : ℕ) → HasEntry old key i → HasEntry mid key i)
    → ((i key : ℕ) → IsLive network state tree i key → end_of fans.outs.end (arc_at network.arcs.items i) ≡ v → HasEntry mid key i)
    → ((i key : ℕ) → HasEntry mid key i → HasEntry new key i)
    → ((i key : ℕ) → IsLive network state tree i key → end_of fans.ins.end (arc_at network.arcs.items i) ≡ v → HasEntry new key i)
    → AreQueued network state tree new
queued_both {network} state tree v old mid new are past kept outs kept_more ins i key live = elim (cases_eq (arc_at network.arcs.items i).from v) [
  | inl from ↦ kept_more i key (outs i key live (rw are.outs.end_is from))
  | inr no_from ↦ elim (cases_eq (arc_at network.arcs.items i).to v) [
    | inl to ↦ ins i key live (rw are.ins.end_is to)
    | inr no_to ↦ kept_more i key (kept i key (past i key live no_from no_to))
  ]
]
