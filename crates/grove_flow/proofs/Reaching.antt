-- What is reached: its places are raised by the least slack of an arc that leads on, and then one variable more is reached.
use Rattle.std.proofs.Common.{◌≡◌, ◌≢◌, ℕ, ◌+◌, ◌*◌, ◌<◌, ◌≤◌, Bool, ltb, List, length, slice_index, ℤ, pos, ◌+ℤ◌, ◌-ℤ◌, ◌≤ℤ◌, eq-zero-or-pos, refl, sym, ◌∙◌, subst, inl, inr, ⊎_elim, arith, SFits, w64, lt-ltb, ltb-true, zero, suc, ◌⊎◌, replicate, slice_set, ap, add-one, length-set, get_or-set_same, get_or-set_other}
use Rattle.std.specs.List.{sum_by}
use Rattle.std.proofs.lemmas.Bool.{cases_eq, cases_lt}
use borrow.Author.Differences.{ints}
use Rattle.grove_flow.specs.declared.network.Arc.{Arc}
use Rattle.grove_flow.specs.Networks.{arc_at, place, IsMet, IsModest, IsLawful, AreLawful}
use Rattle.grove_flow.specs.States.{AreUnmoved, AreNear, IsState}
use Rattle.grove_flow.specs.Reaches.{IsStep, AreNoSteps, IsLeastStep, IsReachedFrom, IsRaised, IsTight, AreWays, IsGrown, unranked, IsAhead, IsBehind, IsLinkedOn, IsLinkedBack}
use Rattle.grove_flow.proofs.Closed.{IsClosed, none_to_give, excess_low}
use Rattle.std.proofs.lemmas.List.{get_or-replicate, get_or_past, length-replicate}
use Rattle.std.proofs.lemmas.List.Sums.{sum_by-set, sum_by-cons}
use Rattle.std.proofs.lemmas.Grind.{common_steps}

-- what is reached but the last lacks nothing, and the last doesn't either
pub all_met : (unmet ranks : List ℕ) (last : ℕ) → ((v : ℕ) → 0 < slice_index ranks v → v ≢ last → slice_index unmet v ≡ 0) → slice_index unmet last ≡ 0
    → (v : ℕ) → 0 < slice_index ranks v → slice_index unmet v ≡ 0
all_met unmet ranks last met none v reached = grind (arith, cases_eq)

-- The search can't get stuck: where no arc leads on, what is reached is closed, and the source has nothing to give.
pub never_stuck : {needs : List ℤ} {arcs : List Arc} {amounts : List ℕ} {places : List ℤ} {excess unmet ranks vias rooms : List ℕ} {source count last : ℕ}
    → IsGrown needs arcs amounts places excess unmet ranks vias rooms source count last → slice_index unmet last ≡ 0
    → AreNoSteps (length arcs) arcs amounts ranks → ⊥
never_stuck {arcs} {amounts} {excess} {unmet} {ranks} {rooms} {source} {last} grown none stuck =
    let is_reached : ℕ → Bool = λ v. ltb 0 (slice_index ranks v) in
    let closed : IsClosed arcs amounts is_reached = record {
      leaves = λ i lt e. lt-ltb 0 (slice_index ranks (arc_at arcs i).to) ((stuck i lt).leaves (ltb-true 0 (slice_index ranks (arc_at arcs i).from) e));
      enters = λ i lt some e. lt-ltb 0 (slice_index ranks (arc_at arcs i).from) ((stuck i lt).enters some (ltb-true 0 (slice_index ranks (arc_at arcs i).to) e));
    } in
    let nothing : slice_index excess source ≡ 0 = none_to_give excess unmet grown.state.frame grown.state.balanced closed
    (λ v lt e. all_met unmet ranks last grown.met none v (ltb-true 0 (slice_index ranks v) e))
    source (omega arith) (lt-ltb 0 (slice_index ranks source) grown.reached.source_rank) in
    omega (arith, grown.reached.ways.open_rooms source grown.reached.source_rank)

-- no slack is negative, so neither is the least
pub least_positive : {arcs : List Arc} {amounts : List ℕ} {places : List ℤ} {ranks : List ℕ} {chosen : ℕ} {by : ℤ}
    → AreLawful arcs amounts places → IsLeastStep (length arcs) arcs amounts places ranks chosen by → pos 0 ≤ℤ by
least_positive {chosen = chosen} lawful least = grind (arith, ints)

-- the slack of an arc fits, and the numbers that it is worked out from
pub slack_fits : (arc : Arc) (places : List ℤ) → IsModest arc.least → AreNear places → IsMet arc places
    → SFits w64 (place places arc.from) × SFits w64 (place places arc.to) × SFits w64 arc.least × SFits w64 (place places arc.to -ℤ place places arc.from)
    × (SFits w64 (place places arc.to -ℤ place places arc.from -ℤ arc.least) × (pos 0 ≤ℤ (place places arc.to -ℤ place places arc.from -ℤ arc.least)) × ((place places arc.to -ℤ place places arc.from -ℤ arc.least) ≤ℤ pos 36028797018963968))
slack_fits arc places (least_low, least_high) near met = omega (arith, ints, near arc.from, near arc.to)

-- a raised arc stays lawful
raised_arc : {arc : Arc} {amount : ℕ} {ranks : List ℕ} {by : ℤ} {old new : List ℤ} → IsRaised ranks by old new → IsLawful arc amount old → pos 0 ≤ℤ by
    → ((s : ℤ) → IsStep arc amount old ranks s → by ≤ℤ s) → IsLawful arc amount new
raised_arc {arc} {ranks} {by} {old} {new} raised lawful positive least = elim (eq-zero-or-pos (slice_index ranks arc.from)) [
  | inl no_from ↦ elim (eq-zero-or-pos (slice_index ranks arc.to)) [
    | inl no_to ↦ omega (arith, ints, raised.still arc.from no_from, raised.still arc.to no_to)
    | inr to ↦ record {
      met = omega (arith, ints, raised.still arc.from no_from, raised.moved arc.to to);
      tight = λ some. let back = least (pos 0) (inr (record { leaves = to; arrives = no_from; some = some; none = refl })) in
          omega (arith, ints, raised.still arc.from no_from, raised.moved arc.to to, lawful.tight some, back);
    }
  ]
  | inr from ↦ elim (eq-zero-or-pos (slice_index ranks arc.to)) [
    | inl no_to ↦ let slack : ℤ = place old arc.to -ℤ (place old arc.from +ℤ arc.least) in
        let by_slack : by ≤ℤ slack = least slack (inl (record { leaves = from; arrives = no_to; slack_is = omega (arith, ints) })) in
        omega (arith, ints, raised.moved arc.from from, raised.still arc.to no_to)
    | inr to ↦ omega (arith, ints, raised.moved arc.from from, raised.moved arc.to to)
  ]
]

-- the reached places are not far above that of the source
raised_low : (source : ℕ) {ranks : List ℕ} {by : ℤ} {old new : List ℤ} → IsRaised ranks by old new → 0 < slice_index ranks source
    → ((v : ℕ) → 0 < slice_index ranks v → place old v ≤ℤ (place old source +ℤ pos (1048576 * slice_index ranks v)))
    → (v : ℕ) → 0 < slice_index ranks v → place new v ≤ℤ (place new source +ℤ pos (1048576 * slice_index ranks v))
raised_low source {ranks} {by} {old} {new} raised some low v rank = omega (arith, ints, low v rank, raised.moved source some, raised.moved v rank)

-- an arc by which a variable was reached stays tight: both its ends are raised
raised_tight : {arcs : List Arc} {amounts ranks vias rooms : List ℕ} {source : ℕ} {by : ℤ} {old new : List ℤ} → IsRaised ranks by old new
    → AreWays arcs amounts ranks vias rooms source → (v : ℕ) → 0 < slice_index ranks v → v ≢ source
    → IsTight (arc_at arcs (slice_index vias v)) old → IsTight (arc_at arcs (slice_index vias v)) new
raised_tight {arcs} {ranks} {vias} raised ways v rank other tight =
    let arc : Arc = arc_at arcs (slice_index vias v) in
    let from_rank : 0 < slice_index ranks arc.from = ⊎_elim (λ h. h.reached) (λ h. subst (λ u. 0 < slice_index ranks u) (sym h.here) rank) (ways.ends v rank other) in
    let to_rank : 0 < slice_index ranks arc.to = ⊎_elim (λ h. subst (λ u. 0 < slice_index ranks u) (sym h.here) rank) (λ h. h.reached) (ways.ends v rank other) in
    omega (arith, ints, raised.moved arc.to to_rank, raised.moved arc.from from_rank)

-- the state with the raised places
pub raised_state : {needs : List ℤ} {arcs : List Arc} {amounts : List ℕ} {excess unmet ranks vias rooms : List ℕ} {source count last chosen : ℕ} {by : ℤ} {old new : List ℤ}
    → IsGrown needs arcs amounts old excess unmet ranks vias rooms source count last → slice_index unmet last ≡ 0
    → IsLeastStep (length arcs) arcs amounts old ranks chosen by → IsRaised ranks by old new → IsState needs arcs amounts new excess unmet
raised_state {needs} {arcs} {amounts} {excess} {unmet} {ranks} {vias} {rooms} {source} {count} {last} {by} {new} grown none least raised =
    let positive : pos 0 ≤ℤ by = least_positive grown.state.lawful least in
    let lawful : AreLawful arcs amounts new = λ i lt. raised_arc raised (grown.state.lawful i lt) positive (λ s step. least.least i s lt step) in
    let unmoved : AreUnmoved new unmet = λ v some. elim (eq-zero-or-pos (slice_index ranks v)) [
      | inl no_rank ↦ rw (raised.still v no_rank) (grown.state.unmoved v some)
      | inr rank ↦ absurd (omega (arith, all_met unmet ranks last grown.met none v rank))
    ] in
    let some : 0 < slice_index rooms source = grown.reached.ways.open_rooms source grown.reached.source_rank in
    let source_low : place new source ≤ℤ pos (1048576 * (length needs + 1)) =
    excess_low amounts new excess unmet grown.state.frame lawful grown.state.balanced unmoved source (omega arith) (omega arith) in
    record {
      frame = grown.state.frame;
      lawful = lawful;
      balanced = grown.state.balanced;
      unmoved = unmoved;
      near = λ v. elim (eq-zero-or-pos (slice_index ranks v)) [
        | inl no_rank ↦ omega (arith, ints, grown.state.near v, raised.still v no_rank)
        | inr rank ↦ let low = raised_low source raised grown.reached.source_rank grown.low v rank in
            omega (arith, ints, grown.state.near v, raised.moved v rank, low, grown.reached.ranks_le v, grown.state.frame.few)
      ];
      amounts_size = grown.state.amounts_size;
      places_size = raised.size ∙ grown.state.places_size;
      excess_size = grown.state.excess_size;
      unmet_size = grown.state.unmet_size;
      sound = grown.state.sound;
    }

-- a variable with a rank isn't one without
pub apart : (ranks : List ℕ) (w v : ℕ) → 0 < slice_index ranks w → slice_index ranks v ≡ 0 → w ≢ v
apart ranks w v some none e = omega (arith, ap (slice_index ranks) e)

-- a variable that an arc leads on to, once it has a rank and a room
pub record IsEntered (arc : Arc) (amount : ℕ) (places : List ℤ) (ranks rooms : List ℕ) (source count v room : ℕ) : Type 0 where
  pub fresh : slice_index ranks v ≡ 0
  pub some : 0 < room
  pub low : place places v ≤ℤ (place places source +ℤ pos (1048576 * (count + 1)))
  pub end : IsLinkedOn arc (slice_set ranks v (count + 1)) (slice_set rooms v room) v ⊎ IsLinkedBack arc amount (slice_set ranks v (count + 1)) (slice_set rooms v room) v

entered : {n : ℕ} {arcs : List Arc} {amounts : List ℕ} {places : List ℤ} {excess ranks vias rooms : List ℕ} {source count : ℕ} {arc : Arc} {amount v room : ℕ}
    → IsReachedFrom n arcs amounts excess ranks vias rooms source count
    → ((u : ℕ) → 0 < slice_index ranks u → place places u ≤ℤ (place places source +ℤ pos (1048576 * slice_index ranks u)))
    → IsModest arc.least → IsTight arc places → v < n → IsAhead arc ranks rooms v room ⊎ IsBehind arc amount ranks rooms v room
    → IsEntered arc amount places ranks rooms source count v room
entered {places} {ranks} {source} {count} {arc} {v} h low (least_low, least_high) tight lt (inl e) =
    grind (arith, apart, common_steps, ints)
entered {places} {ranks} {rooms} {source} {count} {arc} {amount} {v} {room} h low (least_low, least_high) tight lt (inr e) =
    let fresh : slice_index ranks v ≡ 0 = rw e.here at e.arrives in
    let other : arc.to ≢ v = apart ranks arc.to v e.leaves fresh in
    let rank_le : slice_index ranks arc.to ≤ count = h.ranks_le arc.to in
    grind (arith, common_steps, ints)

-- how another variable was reached stays as it is
end_stays : {arc : Arc} {amount : ℕ} {ranks rooms : List ℕ} (v rank room : ℕ) {u : ℕ} → slice_index ranks v ≡ 0 → u ≢ v → IsLinkedOn arc ranks rooms u ⊎ IsLinkedBack arc amount ranks rooms u
    → IsLinkedOn arc (slice_set ranks v rank) (slice_set rooms v room) u ⊎ IsLinkedBack arc amount (slice_set ranks v rank) (slice_set rooms v room) u
end_stays {arc} {ranks} v rank room fresh other (inl h) = grind (arith, apart, common_steps)
end_stays {arc} {ranks} v rank room fresh other (inr h) = grind (arith, apart, common_steps)

-- one variable more
reach_more : {n : ℕ} {arcs : List Arc} {amounts : List ℕ} {places : List ℤ} {excess ranks vias rooms : List ℕ} {source count : ℕ} (i : ℕ) {v room : ℕ}
    → IsReachedFrom n arcs amounts excess ranks vias rooms source count → i < length arcs → v < n
    → IsEntered (arc_at arcs i) (slice_index amounts i) places ranks rooms source count v room
    → IsReachedFrom n arcs amounts excess (slice_set ranks v (count + 1)) (slice_set vias v i)
    (slice_set rooms v room) source (count + 1)
reach_more {arcs} {ranks} {vias} {rooms} {source} {count} i {v} {room} h i_lt lt entry =
    let source_other : source ≢ v = apart ranks source v h.source_rank entry.fresh in
    let via_here : slice_index (slice_set vias v i) v ≡ i = get_or-set_same vias v i 0 (omega arith) in
    record {
      ranks_size = length-set ranks v (count + 1) ∙ h.ranks_size;
      vias_size = length-set vias v i ∙ h.vias_size;
      rooms_size = length-set rooms v room ∙ h.rooms_size;
      source_within = h.source_within;
      source_rank = omega (arith, get_or-set_other ranks v source (count + 1) 0 source_other);
      source_room = omega (arith, get_or-set_other rooms v source room 0 source_other);
      counted = omega (arith, sum_by-set unranked ranks v (count + 1) 0 (omega arith), ap unranked entry.fresh, ap unranked (add-one count));
      ranks_le = λ u. let le : slice_index ranks u ≤ count = h.ranks_le u in grind (arith, common_steps);
      ways = record {
        open_rooms = λ u some. let before : 0 < slice_index ranks u → 0 < slice_index rooms u = h.ways.open_rooms u in grind (arith, common_steps);
        vias_within = grind (arith, common_steps);
        ends = λ u some other. elim (cases_eq u v) [
          | inl e ↦ rw (e, via_here) entry.end
          | inr ne ↦ grind (arith, end_stays, get_or-set_other)
        ];
      };
    }

-- at first the source alone is reached
abbrev pub zeros : ℕ → List ℕ
zeros n = replicate n 0

pub no_ranks : (n v : ℕ) → slice_index (zeros n) v ≡ 0
no_ranks n v = grind (arith, cases_lt, get_or-replicate, get_or_past, length-replicate)

all_unranked : (n : ℕ) → sum_by unranked (zeros n) ≡ n
all_unranked zero = refl
all_unranked (suc n) = omega (arith, all_unranked n, sum_by-cons unranked 0 (zeros n))

pub start_grown : {needs : List ℤ} {arcs : List Arc} {amounts : List ℕ} {places : List ℤ} {excess unmet : List ℕ} (vias rooms : List ℕ) (n source : ℕ)
    → IsState needs arcs amounts places excess unmet → n ≡ length needs → length vias ≡ length needs → length rooms ≡ length needs
    → source < length needs → 0 < slice_index excess source
    → IsGrown needs arcs amounts places excess unmet (slice_set (zeros n) source 1) vias
    (slice_set rooms source (slice_index excess source)) source 1 source
start_grown {places} {excess} vias rooms n source state n_is vias_size rooms_size lt some =
    let zeros_size : length (zeros n) ≡ n = length-replicate n 0 in
    let rank_here : slice_index (slice_set (zeros n) source 1) source ≡ 1 = get_or-set_same (zeros n) source 1 0 (omega arith) in
    let room_here : slice_index (slice_set rooms source (slice_index excess source)) source ≡ slice_index excess source = get_or-set_same rooms source (slice_index excess source) 0 (omega arith) in
    record {
      state = state;
      reached = record {
        ranks_size = length-set (zeros n) source 1 ∙ zeros_size ∙ n_is;
        vias_size = vias_size;
        rooms_size = length-set rooms source (slice_index excess source) ∙ rooms_size;
        source_within = lt;
        source_rank = omega arith;
        source_room = omega arith;
        counted = omega (arith, sum_by-set unranked (zeros n) source 1 0 (omega arith), ap unranked (no_ranks n source), all_unranked n);
        ranks_le = λ v. let none : slice_index (zeros n) v ≡ 0 = no_ranks n v in grind (arith, common_steps);
        ways = record {
          open_rooms = λ v rank. rw (only v rank) (omega arith);
          vias_within = λ v rank other. absurd (other (only v rank));
          ends = λ v rank other. absurd (other (only v rank));
        };
      };
      low = λ v rank. rw (only v rank) (omega (arith, ints));
      tight = λ v rank other. absurd (other (only v rank));
      within = omega arith;
      rank = omega arith;
      met = λ v rank other. absurd (other (only v rank));
    }
  where
    only : (v : ℕ) → 0 < slice_index (slice_set (zeros n) source 1) v → v ≡ source
    only v rank = let none : slice_index (zeros n) v ≡ 0 = no_ranks n v in grind (arith, common_steps)

-- the chosen arc is tight once the reached places are raised
chosen_tight : (arc : Arc) (amount : ℕ) {ranks : List ℕ} {by : ℤ} {old new : List ℤ} → IsRaised ranks by old new → IsStep arc amount old ranks by
    → (0 < amount → place new arc.from +ℤ arc.least ≡ place new arc.to) → place new arc.from +ℤ arc.least ≡ place new arc.to
chosen_tight arc amount {by} {old} {new} raised (inl h) tight = omega (arith, ints, raised.still arc.to h.arrives, raised.moved arc.from h.leaves)
chosen_tight arc amount raised (inr h) tight = tight h.some

-- a step of the search
pub grown : {needs : List ℤ} {arcs : List Arc} {amounts : List ℕ} {old new : List ℤ} {excess unmet ranks vias rooms : List ℕ} {source count last chosen : ℕ} {by : ℤ} {arc : Arc} {v room : ℕ}
    → IsGrown needs arcs amounts old excess unmet ranks vias rooms source count last → slice_index unmet last ≡ 0
    → IsLeastStep (length arcs) arcs amounts old ranks chosen by → IsRaised ranks by old new → arc ≡ arc_at arcs chosen → v < length ranks
    → IsAhead arc ranks rooms v room ⊎ IsBehind arc (slice_index amounts chosen) ranks rooms v room
    → IsGrown needs arcs amounts new excess unmet (slice_set ranks v (count + 1)) (slice_set vias v chosen)
    (slice_set rooms v room) source (count + 1) v
grown {needs} {arcs} {amounts} {new} {excess} {unmet} {ranks} {vias} {rooms} {source} {count} {last} {chosen} {v} {room} h none least raised is lt entry =
    let state : IsState needs arcs amounts new excess unmet = raised_state h none least raised in
    let low = raised_low source raised h.reached.source_rank h.low in
    let tight = chosen_tight (arc_at arcs chosen) (slice_index amounts chosen) raised least.step (state.lawful chosen least.within).tight in
    let at_arc : IsAhead (arc_at arcs chosen) ranks rooms v room ⊎ IsBehind (arc_at arcs chosen) (slice_index amounts chosen) ranks rooms v room =
    subst (λ a. IsAhead a ranks rooms v room ⊎ IsBehind a (slice_index amounts chosen) ranks rooms v room) is entry in
    let here = entered h.reached low (state.frame.arcs_of chosen least.within).modest tight (omega arith) at_arc in
    let rank_here : slice_index (slice_set ranks v (count + 1)) v ≡ count + 1 = get_or-set_same ranks v (count + 1) 0 lt in
    let via_here : slice_index (slice_set vias v chosen) v ≡ chosen = get_or-set_same vias v chosen 0 (omega arith) in
    let rank_other : (u : ℕ) → u ≢ v → slice_index (slice_set ranks v (count + 1)) u ≡ slice_index ranks u = λ u ne. get_or-set_other ranks v u (count + 1) 0 ne in
    record {
      state = state;
      reached = reach_more chosen h.reached least.within (omega arith) here;
      low = λ u some. elim (cases_eq u v) [
        | inl e ↦ rw (e, rank_here) here.low
        | inr ne ↦ rw (rank_other u ne) (low u (omega (arith, rank_other u ne)))
      ];
      tight = λ u some other. elim (cases_eq u v) [
        | inl e ↦ rw (e, via_here) tight
        | inr ne ↦ let was : 0 < slice_index ranks u = omega (arith, rank_other u ne) in
            rw (get_or-set_other vias v u chosen 0 ne) (raised_tight raised h.reached.ways u was other (h.tight u was other))
      ];
      within = omega arith;
      rank = omega arith;
      met = λ u some other. all_met unmet ranks last h.met none u (omega (arith, rank_other u other));
    }
