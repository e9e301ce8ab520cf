-- A search step by step, each of which is a step of a search that raises at once: keys of the arcs that lead on, over the places as they
-- stand, are slacks over the places as they would be raised.
use Rattle.std.proofs.Common.{◌≡◌, ℕ, zero, suc, ◌+◌, ◌<◌, ◌≤◌, List, [], ◌∷◌, length, slice_index, slice_set, ℤ, pos, negsuc, ◌+ℤ◌, ◌-ℤ◌, ◌≤ℤ◌, refl, sym, ◌∙◌, subst, inl, inr, arith, eq-zero-or-pos, get_or-set_same, get_or-set_other, ◌≢◌, ◌⊎◌, slice_index_or, length-set}
use Rattle.std.proofs.lemmas.Bool.{cases_eq}
use Rattle.std.proofs.lemmas.Grind.{common_steps}
use borrow.Author.Differences.{ints, up}
use Rattle.grove_flow.specs.declared.network.Arc.{Arc}
use Rattle.grove_flow.specs.Networks.{arc_at, place, IsLawful, AreLawful}
use Rattle.grove_flow.specs.Reaches.{IsNew, IsStep, IsNoStep, AreNoSteps, IsLeastStep, IsRaised, IsAhead, IsBehind, IsGrown}
use Rattle.grove_flow.specs.Trees.{IsKey, AreRaisedTo, IsLive, IsSearchTree, IsStateOf, IsTreeOf}
use Rattle.std.proofs.lemmas.List.{ext_get_or, get_or_read, length-replicate}
use Rattle.grove_flow.specs.declared.network.Network.{Network}
use Rattle.grove_flow.specs.declared.state.State.{State}
use Rattle.grove_flow.specs.declared.tree.Tree.{Tree}
use Rattle.grove_flow.specs.Searches.{IsGrowing}
use Rattle.grove_flow.proofs.Reaching.{least_positive, never_stuck, apart, grown, no_ranks, start_grown, zeros}

nonneg : (z : ℤ) → pos 0 ≤ℤ z → pos (up z) ≡ z
nonneg (pos n) h = refl
nonneg (negsuc n) h = absurd (omega (arith, ints))

-- an arc leads on at one key alone
pub key_same : (arc : Arc) (amount : ℕ) (places : List ℤ) (ranks entries : List ℕ) (k l : ℕ) → IsKey arc amount places ranks entries k → IsKey arc amount places ranks entries l → k ≡ l
key_same arc amount places ranks entries k l (inl h) (inl j) = omega (arith, ints, h.key_is, j.key_is)
key_same arc amount places ranks entries k l (inl h) (inr j) = absurd (omega arith)
key_same arc amount places ranks entries k l (inr h) (inl j) = absurd (omega arith)
key_same arc amount places ranks entries k l (inr h) (inr j) = h.key_is ∙ sym j.key_is

-- to a new variable
pub key_new : (arc : Arc) (amount : ℕ) (places : List ℤ) (ranks entries : List ℕ) (key : ℕ) → IsKey arc amount places ranks entries key → IsNew arc amount ranks
key_new arc amount places ranks entries key (inl h) = inl (h.leaves, h.arrives)
key_new arc amount places ranks entries key (inr h) = inr (h.leaves, h.arrives, h.some)

-- and at none where it doesn't lead on
pub no_key : {arc : Arc} {amount : ℕ} (places : List ℤ) {ranks : List ℕ} (entries : List ℕ) (key : ℕ) → IsNoStep arc amount ranks → IsKey arc amount places ranks entries key → ⊥
no_key places entries key none (inl h) = omega (arith, none.leaves h.leaves)
no_key places entries key none (inr h) = omega (arith, none.enters h.some h.leaves)

-- a key is the slack over the raised places, past the distance that the search has gone
pub key_step : {arc : Arc} {amount distance : ℕ} {places raised : List ℤ} {ranks entries : List ℕ} (key : ℕ) → AreRaisedTo distance ranks entries places raised
    → IsLawful arc amount places → IsLawful arc amount raised → IsKey arc amount places ranks entries key → IsStep arc amount raised ranks (pos key -ℤ pos distance)
key_step {arc} key h standing lawful (inl k) =
    inl (record { leaves = k.leaves; arrives = k.arrives; slack_is = omega (arith, ints, h.still arc.to k.arrives, h.moved arc.from k.leaves) })
key_step {arc} key h standing lawful (inr k) = grind (arith, ints)

pub step_key : {arc : Arc} {amount distance : ℕ} {places raised : List ℤ} {ranks entries : List ℕ} (slack : ℤ) → AreRaisedTo distance ranks entries places raised
    → IsLawful arc amount places → IsLawful arc amount raised → IsStep arc amount raised ranks slack → (key : ℕ) × IsKey arc amount places ranks entries key × (pos key ≡ slack +ℤ pos distance)
step_key {arc} {distance} slack h standing lawful (inl s) =
    let is : pos (up (slack +ℤ pos distance)) ≡ slack +ℤ pos distance =
    nonneg (slack +ℤ pos distance) (omega (arith, ints, h.moved arc.from s.leaves, h.still arc.to s.arrives)) in
    (up (slack +ℤ pos distance), inl (record { leaves = s.leaves; arrives = s.arrives; key_is = omega (arith, ints, h.moved arc.from s.leaves, h.still arc.to s.arrives) }), is)
step_key {arc} {entries} slack h standing lawful (inr s) = grind (arith, ints)

-- where no arc leads on at a key, none leads on
pub no_keys : (arcs : List Arc) (amounts : List ℕ) {distance : ℕ} {places raised : List ℤ} {ranks entries : List ℕ} → AreRaisedTo distance ranks entries places raised
    → AreLawful arcs amounts places → AreLawful arcs amounts raised
    → ((i key : ℕ) → i < length arcs → IsKey (arc_at arcs i) (slice_index amounts i) places ranks entries key → ⊥) → AreNoSteps (length arcs) arcs amounts ranks
no_keys arcs amounts {raised} {ranks} h standing lawful none i lt =
    let arc : Arc = arc_at arcs i in
    let amount : ℕ = slice_index amounts i in
    let stuck : (slack : ℤ) → IsStep arc amount raised ranks slack → ⊥ = λ slack step.
    let found = step_key slack h (standing i lt) (lawful i lt) step in none i found.0 lt found.1 in
    record {
      leaves = λ from. elim (eq-zero-or-pos (slice_index ranks arc.to)) [
        | inl no_to ↦ absurd (stuck (place raised arc.to -ℤ (place raised arc.from +ℤ arc.least)) (inl (record { leaves = from; arrives = no_to; slack_is = omega (arith, ints) })))
        | inr to ↦ to
      ];
      enters = grind (arith, eq-zero-or-pos);
    }

-- the arc with the least key has the least slack
pub least_step : (arcs : List Arc) (amounts : List ℕ) {distance : ℕ} {places raised : List ℤ} {ranks entries : List ℕ} (chosen key : ℕ) → AreRaisedTo distance ranks entries places raised
    → AreLawful arcs amounts places → AreLawful arcs amounts raised → chosen < length arcs → IsKey (arc_at arcs chosen) (slice_index amounts chosen) places ranks entries key
    → ((i other : ℕ) → i < length arcs → IsKey (arc_at arcs i) (slice_index amounts i) places ranks entries other → key ≤ other)
    → IsLeastStep (length arcs) arcs amounts raised ranks chosen (pos key -ℤ pos distance)
least_step arcs amounts {distance} {places} {ranks} {entries} chosen key h standing lawful lt live least = record {
  within = lt;
  step = key_step key h (standing chosen lt) (lawful chosen lt) live;
  least = λ i slack i_lt step.
      let found : (other : ℕ) × IsKey (arc_at arcs i) (slice_index amounts i) places ranks entries other × (pos other ≡ slack +ℤ pos distance) =
      step_key slack h (standing i i_lt) (lawful i i_lt) step in
      omega (arith, ints, least i found.0 i_lt found.1);
}

-- the reached places, raised by so much
abbrev pub raised_one : ℤ → ℕ → ℤ → ℤ
raised_one by zero z = z
raised_one by (suc rank) z = z +ℤ by

abbrev pub raise_by : ℤ → List ℕ → List ℤ → List ℤ
raise_by by (rank ∷ ranks) (z ∷ places) = raised_one by rank z ∷ raise_by by ranks places
raise_by by ranks places = places

raised_cons : {by : ℤ} (rank : ℕ) (z : ℤ) {ranks : List ℕ} {places next : List ℤ} → IsRaised ranks by places next
    → IsRaised (rank ∷ ranks) by (z ∷ places) (raised_one by rank z ∷ next)
raised_cons {by} rank z {ranks} {places} {next} rest = record { size = omega (arith, rest.size); moved = moved rank; still = still rank }
  where
    moved : (r v : ℕ) → 0 < slice_index (r ∷ ranks) v → place (raised_one by r z ∷ next) v ≡ place (z ∷ places) v +ℤ by
    moved zero zero some = absurd (omega arith)
    moved (suc r) zero some = refl
    moved r (suc v) some = rest.moved v some

    still : (r v : ℕ) → slice_index (r ∷ ranks) v ≡ 0 → place (raised_one by r z ∷ next) v ≡ place (z ∷ places) v
    still zero zero none = refl
    still (suc r) zero none = absurd (omega arith)
    still r (suc v) none = rest.still v none

pub raised_by : (by : ℤ) (ranks : List ℕ) (places : List ℤ) → length ranks ≡ length places → IsRaised ranks by places (raise_by by ranks places)
raised_by by [] places size = record { size = refl; moved = λ v some. absurd (omega arith); still = λ v none. refl }
raised_by by (rank ∷ ranks) [] size = absurd (omega arith)
raised_by by (rank ∷ ranks) (z ∷ places) size = raised_cons rank z (raised_by by ranks places (omega arith))

-- one more variable, at the farthest distance
pub raised_more : {distance : ℕ} (key v rank : ℕ) {ranks entries : List ℕ} {places raised next : List ℤ} → AreRaisedTo distance ranks entries places raised → distance ≤ key
    → IsRaised ranks (pos key -ℤ pos distance) raised next → slice_index ranks v ≡ 0 → v < length ranks → length entries ≡ length ranks → 0 < rank
    → AreRaisedTo key (slice_set ranks v rank) (slice_set entries v key) places next
raised_more {distance} key v rank {ranks} {entries} {places} {raised} {next} h le raise fresh lt size some = record {
  size = raise.size ∙ h.size;
  entered = grind (arith, common_steps);
  moved = λ u rank_u. elim (cases_eq u v) [
    | inl e ↦ rw e (omega (arith, ints, get_or-set_same entries v key 0 (omega arith), raise.still v fresh, h.still v fresh))
    | inr ne ↦ let same : slice_index (slice_set ranks v rank) u ≡ slice_index ranks u = get_or-set_other ranks v u rank 0 ne in
        omega (arith, ints, get_or-set_other entries v u key 0 ne, h.moved u (omega arith), raise.moved u (omega arith))
  ];
  still = grind (arith, common_steps);
}

-- the raised places are one list alone
pub raised_same : {distance : ℕ} {ranks entries : List ℕ} {places raised other : List ℤ} → AreRaisedTo distance ranks entries places raised → AreRaisedTo distance ranks entries places other
    → (v : ℕ) → place raised v ≡ place other v
raised_same h k v = grind (arith, ints)

-- the places before the i-th were raised
pub record AreSettled (i distance : ℕ) (ranks entries : List ℕ) (old new : List ℤ) : Type 0 where
  pub size : length new ≡ length old
  pub moved : (v : ℕ) → v < i → 0 < slice_index ranks v → place new v +ℤ pos (slice_index entries v) ≡ place old v +ℤ pos distance
  pub still : (v : ℕ) → v < i → slice_index ranks v ≡ 0 → place new v ≡ place old v
  pub rest : (v : ℕ) → i ≤ v → place new v ≡ place old v

-- a reached place is raised
pub settled_raised : {i distance : ℕ} {ranks entries : List ℕ} {old new : List ℤ} (z : ℤ) → i < length new → AreSettled i distance ranks entries old new → 0 < slice_index ranks i
    → z +ℤ pos (slice_index entries i) ≡ place new i +ℤ pos distance → AreSettled (i + 1) distance ranks entries old (slice_set new i z)
settled_raised z lt h rank is = grind (arith, common_steps)

-- another is left
pub settled_still : {i distance : ℕ} {ranks entries : List ℕ} {old new : List ℤ} → AreSettled i distance ranks entries old new → slice_index ranks i ≡ 0 → AreSettled (i + 1) distance ranks entries old new
settled_still h none = grind (arith, common_steps)

module _ {network : Network} {state : State} {tree : Tree} {source count last : ℕ} (state_of : IsStateOf network state) (h : IsGrowing network state tree source count last) where
  -- no distance is great, since no raised place is
  pub farthest : slice_index tree.entries.items last ≤ 36028797018963968
  farthest = omega (arith, ints, state_of.near source, h.grown.state.near source, h.raised_to.moved source h.grown.reached.source_rank, h.first)

  pub search_tree : IsSearchTree network state tree
  search_tree = grind (arith, farthest)

  -- some arc leads on, where the last variable lacks nothing
  pub never_empty : slice_index state.unmet.items last ≡ 0 → ((i key : ℕ) → IsLive network state tree i key → ⊥) → ⊥
  never_empty met none = never_stuck h.grown met (no_keys network.arcs.items state.amounts.items
      h.raised_to state_of.lawful h.grown.state.lawful (λ i key lt is. none i key (record { within = lt; is = is })))

  -- what is read of an arc
  pub arc_read : {i key : ℕ} (amount : ℕ) (arc : Arc) → IsLive network state tree i key → arc ≡ slice_index_or network.arcs.items i arc
      → amount ≡ slice_index_or state.amounts.items i amount → (arc ≡ arc_at network.arcs.items i) × (amount ≡ slice_index state.amounts.items i)
  arc_read {i} amount arc live arc_is amount_is = grind (arith, get_or_read)

  -- one variable more
  pub growing_more : {i key v room amount : ℕ} {arc : Arc} (new : Tree) → slice_index state.unmet.items last ≡ 0
      → IsLive network state tree i key → ((j other : ℕ) → IsLive network state tree j other → key ≤ other)
      → arc ≡ slice_index_or network.arcs.items i arc → amount ≡ slice_index_or state.amounts.items i amount → v < length tree.ranks.items
      → IsAhead arc tree.ranks.items tree.rooms.items v room ⊎ IsBehind arc amount tree.ranks.items tree.rooms.items v room
      → new.ranks.items ≡ slice_set tree.ranks.items v (count + 1) → new.vias.items ≡ slice_set tree.vias.items v i
      → new.rooms.items ≡ slice_set tree.rooms.items v room → new.entries.items ≡ slice_set tree.entries.items v key
      → IsGrowing network state new source (count + 1) v
  growing_more {i} {key} {v} {room} {amount} {arc} new met live least arc_at_is amount_at_is lt entry ranks_is vias_is rooms_is entries_is =
      let (arc_is, amount_is) = arc_read amount arc live arc_at_is amount_at_is in
      let ranks : List ℕ = tree.ranks.items in
      let by : ℤ = pos key -ℤ pos (slice_index tree.entries.items last) in
      let step : IsLeastStep (length network.arcs.items) network.arcs.items state.amounts.items h.raised ranks i by =
      least_step network.arcs.items state.amounts.items i key h.raised_to state_of.lawful h.grown.state.lawful live.within live.is
      (λ j other j_lt is. least j other (record { within = j_lt; is = is })) in
      let farther : slice_index tree.entries.items last ≤ key = omega (arith, ints, least_positive h.grown.state.lawful step) in
      let raise = raised_by by ranks h.raised (h.grown.reached.ranks_size ∙ sym h.grown.state.places_size) in
      let fresh : slice_index ranks v ≡ 0 = elim entry [ inl e ↦ rw e.here at e.arrives | inr e ↦ rw e.here at e.arrives ] in
      let other : source ≢ v = apart ranks source v h.grown.reached.source_rank fresh in
      let key_here : slice_index (slice_set tree.entries.items v key) v ≡ key = get_or-set_same tree.entries.items v key 0 (omega arith) in
      record {
        tree_of = grind (arith, length-set);
        raised = raise_by by ranks h.raised;
        raised_to = rw (ranks_is, entries_is, key_here) (raised_more key v (count + 1) h.raised_to farther raise fresh lt (omega arith) (omega arith));
        grown = rw (ranks_is, vias_is, rooms_is) (grown h.grown met step raise arc_is lt (rw amount_is at entry));
        first = rw entries_is (get_or-set_other tree.entries.items v source key 0 other ∙ h.first);
      }

-- the source alone
pub growing_start : {network : Network} {state : State} {tree new : Tree} {source room : ℕ} → IsStateOf network state → IsTreeOf (length network.needs.items) tree
    → source < length network.needs.items → 0 < slice_index state.excess.items source → room ≡ slice_index_or state.excess.items source room
    → new.ranks.items ≡ slice_set (zeros (length tree.ranks.items)) source 1 → new.vias.items ≡ tree.vias.items
    → new.rooms.items ≡ slice_set tree.rooms.items source room → new.entries.items ≡ slice_set tree.entries.items source 0
    → IsGrowing network state new source 1 source
growing_start {state} {tree} {source} {room} state_of sizes lt some read ranks_is vias_is rooms_is entries_is =
    let n : ℕ = length tree.ranks.items in
    let room_is : room ≡ slice_index state.excess.items source = get_or_read state.excess.items source room (omega arith) read 0 in
    let first : slice_index (slice_set tree.entries.items source 0) source ≡ 0 = get_or-set_same tree.entries.items source 0 0 (omega arith) in
    let only : (v : ℕ) → 0 < slice_index (slice_set (zeros n) source 1) v → slice_index (slice_set tree.entries.items source 0) v ≡ 0 =
    λ v rank. let none : slice_index (zeros n) v ≡ 0 = no_ranks n v in grind (arith, common_steps) in
    record {
      tree_of = grind (arith, length-replicate, length-set, zeros);
      raised = state.places.items;
      raised_to = rw (ranks_is, entries_is, first) (record {
        size = refl;
        entered = λ v rank. omega (arith, only v rank);
        moved = λ v rank. omega (arith, ints, only v rank);
        still = λ v none. refl;
      });
      grown = rw (ranks_is, vias_is, rooms_is, room_is) (start_grown tree.vias.items tree.rooms.items n source
          state_of sizes.ranks sizes.vias sizes.rooms lt some);
      first = rw entries_is first;
    }

-- once the places are raised, what the search found is found over them
pub grown_at : {network : Network} {state : State} {tree : Tree} {source count last : ℕ} {new : List ℤ} → IsGrowing network state tree source count last
    → AreRaisedTo (slice_index tree.entries.items last) tree.ranks.items tree.entries.items state.places.items new
    → IsGrown network.needs.items network.arcs.items state.amounts.items new state.excess.items state.unmet.items tree.ranks.items tree.vias.items tree.rooms.items source count last
grown_at {network} {state} {tree} {source} {count} {last} {new} h settled =
    subst (λ places. IsGrown network.needs.items network.arcs.items state.amounts.items places state.excess.items state.unmet.items tree.ranks.items tree.vias.items tree.rooms.items source count last)
    (ext_get_or (pos 0) h.raised new (h.raised_to.size ∙ sym settled.size) (λ v lt. raised_same h.raised_to settled v)) h.grown

pub read_at : (xs : List ℕ) {n : ℕ} (i : ℕ) {x : ℕ} → length xs ≡ n → i < n → x ≡ slice_index_or xs i x → x ≡ slice_index xs i
read_at xs i {x} size lt read = get_or_read xs i x (omega arith) read 0
