-- Every legal plan locks the nodes that the tree forces: each locked node has a chain of locked nodes up to the first lock's node.
use Rattle.std.proofs.Common.{◌≡◌, ℕ, zero, suc, ◌-◌, ◌<◌, ◌≤◌, true, ◌⊎◌, List, length, Some, refl, sym, ◌∙◌, ap, inl}
use Rattle.std.proofs.Common.{inr, arith}
use Rattle.std.specs.List.{slice_get}
use Rattle.std.proofs.lemmas.Option.{same_Some, slice_get_within}
use Rattle.std.proofs.lemmas.Bool.{cases_lt, cases_order, cases_Bool, both_ways}
use Rattle.grove_base.specs.Numbers.{any_below}
use Rattle.grove_tree.specs.Trees.{Rows, parent_of, up, IsAbove, IsTree}
use Rattle.grove_base.proofs.Counting.{any_true, any_false, numbers_get}
use Rattle.grove_tree.proofs.Above.{up_le, up_from_parent, above_linear}
use Rattle.grove_access.specs.Forced.{IsCommon, IsForcedByTree}
use Rattle.grove_plan.specs.declared.step.Step.{Step}
use Rattle.grove_plan.specs.declared.step.Step.TheVariants.{Lock, Access}
use Rattle.grove_plan.specs.Plans.{is_lock, held, IsLater, IsLegal, IsLockedBy, IsForced}
use Rattle.grove_plan.specs.Slots.{accesses_before}
use Rattle.grove_plan.proofs.Held.{HeldAt, held_at, find_access, is_lock_true, lock_same}

-- a lock before which there is no lock
pub record IsFirstLock (plan : List Step) (top i : ℕ) : Type 0 where
  pub there : slice_get plan i ≡ Some (Lock top)
  pub first : (j v : ℕ) → j < i → slice_get plan j ≡ Some (Lock v) → ⊥

-- a node's chain: the first lock and its top, the number of steps up to it, and every node on the way locked
pub record HasChain (rows : Rows) (plan : List Step) (v : ℕ) : Type 0 where
  pub top : ℕ
  pub at : ℕ
  pub first : IsFirstLock plan top at
  pub steps : ℕ
  pub leads : up rows steps v ≡ Some top
  pub locked : (k w : ℕ) → k ≤ steps → up rows k v ≡ Some w → IsLockedBy plan w

-- some lock stands before a place, or none does
pub later_or_first : (plan : List Step) (i : ℕ) → IsLater plan i ⊎ ((j v : ℕ) → j < i → slice_get plan j ≡ Some (Lock v) → ⊥)
later_or_first plan i = elim (cases_Bool (any_below i (λ j. is_lock (slice_get plan j)))) [
  | inl some ↦ grind (arith, any_true, is_lock_true)
  | inr none ↦ inr (λ j v lt h.
      both_ways (is_lock (slice_get plan j)) (any_false i (λ j. is_lock (slice_get plan j)) none j lt) (ap is_lock h))
]

-- there is one first lock
pub first_lock_one : (plan : List Step) (a b i j : ℕ) → IsFirstLock plan a i → IsFirstLock plan b j → (i ≡ j) × (a ≡ b)
first_lock_one plan a b i j h k = grind (arith, cases_order, lock_same, same_Some)

-- every node on no way at all, and on a way that is one step longer
chain_none : (rows : Rows) (plan : List Step) (v i : ℕ) → slice_get plan i ≡ Some (Lock v) → (k w : ℕ) → k ≤ 0 → up rows k v ≡ Some w → IsLockedBy plan w
chain_none rows plan v i h zero w le e = (i, h ∙ ap (λ (n : ℕ). Some (Lock n)) (same_Some v w e))
chain_none rows plan v i h (suc k) w le e = absurd (omega arith)

chain_more : (rows : Rows) (plan : List Step) (v p i : ℕ) → slice_get plan i ≡ Some (Lock v) → parent_of rows v ≡ Some p → (chain : HasChain rows plan p)
    → (k w : ℕ) → k ≤ suc chain.steps → up rows k v ≡ Some w → IsLockedBy plan w
chain_more rows plan v p i h e chain zero w le is = (i, h ∙ ap (λ (n : ℕ). Some (Lock n)) (same_Some v w is))
chain_more rows plan v p i h e chain (suc k) w le is = chain.locked k w (omega arith) (sym (up_from_parent rows k v p e) ∙ is)

-- a locked node has a chain, below a bound on its lock's place
chain_within : (rows : Rows) (nodes : List ℕ) (plan : List Step) → IsLegal rows nodes plan
    → (bound i v : ℕ) → i < bound → slice_get plan i ≡ Some (Lock v) → HasChain rows plan v
chain_within rows nodes plan legal zero i v lt h = absurd (omega arith)
chain_within rows nodes plan legal (suc bound) i v lt h = elim (later_or_first plan i) [
  | inl later ↦
      let up_one : (parent : ℕ) × (parent_of rows v ≡ Some parent) × (held plan parent i ≡ true) = legal.obeys.parents i v h later in
      let at : HeldAt plan up_one.0 i = held_at plan up_one.0 i up_one.2 in
      let before : at.at < i = at.before in
      let chain : HasChain rows plan up_one.0 = chain_within rows nodes plan legal bound at.at up_one.0 (omega arith) at.is_lock in
      record {
        top = chain.top;
        at = chain.at;
        first = chain.first;
        steps = suc chain.steps;
        leads = up_from_parent rows chain.steps v up_one.0 up_one.1 ∙ chain.leads;
        locked = chain_more rows plan v up_one.0 i h up_one.1 chain;
      }
  | inr first ↦ record {
    top = v;
    at = i;
    first = record { there = h; first = first };
    steps = 0;
    leads = refl;
    locked = chain_none rows plan v i h;
  }
]

-- a locked node has a chain
pub chain_to : (rows : Rows) (nodes : List ℕ) (plan : List Step) → IsLegal rows nodes plan
    → (i v : ℕ) → slice_get plan i ≡ Some (Lock v) → HasChain rows plan v
chain_to rows nodes plan legal i v h = chain_within rows nodes plan legal (suc i) i v (omega arith) h

-- where an access is done in a legal plan
pub record IsPerformed (plan : List Step) (access target : ℕ) : Type 0 where
  pub place : ℕ
  pub there : slice_get plan place ≡ Some (Access access)
  pub before : accesses_before plan place ≡ access
  pub held : HeldAt plan target place

-- each access is done in a legal plan, while its node is held
pub performed : (rows : Rows) (nodes : List ℕ) (plan : List Step) → IsLegal rows nodes plan
    → (access target : ℕ) → slice_get nodes access ≡ Some target → IsPerformed plan access target
performed rows nodes plan legal access target h =
    let found : (q : ℕ) × (slice_get plan q ≡ Some (Access access)) × (accesses_before plan q ≡ access) =
    find_access plan access access (ap (λ (xs : List ℕ). slice_get xs access) legal.performs.in_order ∙ numbers_get (length nodes) access (slice_get_within nodes access target h)) in
    record {
      place = found.0;
      there = found.1;
      before = found.2;
      held = held_at plan target found.0 (legal.performs.while_held found.0 access target found.1 h);
    }

-- the chain of an accessed node
pub accessed_chain : (rows : Rows) (nodes : List ℕ) (plan : List Step) → IsLegal rows nodes plan
    → (access target : ℕ) → slice_get nodes access ≡ Some target → HasChain rows plan target
accessed_chain rows nodes plan legal access target h =
    let done : IsPerformed plan access target = performed rows nodes plan legal access target h in
    chain_to rows nodes plan legal done.held.at target done.held.is_lock

-- the first lock's node is above every accessed node
pub first_is_common : (rows : Rows) (nodes : List ℕ) (plan : List Step) → IsLegal rows nodes plan
    → (top i : ℕ) → IsFirstLock plan top i → IsCommon rows nodes top
first_is_common rows nodes plan legal top i first access target h =
    let chain : HasChain rows plan target = accessed_chain rows nodes plan legal access target h in
    grind (arith, first_lock_one)

-- a node that the tree forces is locked in every legal plan
pub by_tree_is_forced : (rows : Rows) (nodes : List ℕ) (node : ℕ) → IsTree rows → IsForcedByTree rows nodes node → IsForced rows nodes node
by_tree_is_forced rows nodes node tree forced plan legal =
    let chain : HasChain rows plan forced.target = accessed_chain rows nodes plan legal forced.access forced.target forced.names in
    let below : IsAbove rows chain.top node = forced.below chain.top (first_is_common rows nodes plan legal chain.top chain.at chain.first) in
    let covers : IsAbove rows node forced.target = forced.covers in
    elim (cases_lt chain.steps covers.0) [
      | inr le ↦ chain.locked covers.0 node le covers.1
      | inl lt ↦
          let higher : up rows (covers.0 - chain.steps) chain.top ≡ Some node = above_linear rows chain.steps covers.0 forced.target chain.top node chain.leads covers.1 (omega arith) in
          grind (arith, up_le)
    ]
