-- What is sent: along a way, one arc at a time from its end back to the source; what is still to be sent then; and what enters and leaves
-- each variable, added up one arc after another.
use Rattle.std.proofs.Common.{◌≡◌, ◌≢◌, ℕ, zero, suc, ◌+◌, ◌-◌, ◌<◌, ◌≤◌, ◌⊎◌, ◌==◌, Bool, cond, List, [], ◌∷◌, length, slice_index, slice_set, refl, sym, ◌∙◌, ap, subst, inl, inr, arith, length-set, get_or-set_same, get_or-set_other, ◌^◌, ℤ, eq-eqb, ne_eqb, ◌*◌, take, add-one, below_more}
use Rattle.std.proofs.lemmas.Bool.{cases_eq}
use Rattle.std.proofs.lemmas.Grind.{common_steps}
use Rattle.grove_flow.specs.declared.network.Arc.{Arc}
use Rattle.grove_flow.specs.Networks.{arc_at, IsLawful}
use Rattle.grove_flow.specs.Flows.{sent}
use Rattle.grove_flow.specs.States.{at, IsMoved, IsState}
use Rattle.grove_flow.proofs.Closed.{cond_more, sum_one}
use Rattle.grove_flow.specs.Reaches.{IsLinkedOn, IsLinkedBack, AreWays, AreAlong, IsSentOn, IsSentBack, IsGrown}
use Rattle.grove_base.specs.Numbers.{sum_below}
use Rattle.grove_base.proofs.Counting.{sum_add, sum_same, sum_term}
use Rattle.std.proofs.lemmas.List.{length-replicate}
use Rattle.grove_flow.specs.Checks.{AreTotals}
use Rattle.grove_flow.proofs.Reaching.{no_ranks, zeros}
use Rattle.grove_flow.proofs.Starting.{sent_none}

-- another amount on one arc counts for the tests that the arc passes
sent_set : (test : Arc → Bool) (arcs : List Arc) (amounts : List ℕ) (i x : ℕ) → i < length arcs → length amounts ≡ length arcs
    → sent test arcs (slice_set amounts i x) + cond (test (arc_at arcs i)) (slice_index amounts i) 0 ≡ sent test arcs amounts + cond (test (arc_at arcs i)) x 0
sent_set test [] amounts i x lt size = absurd (omega arith)
sent_set test (arc ∷ arcs) [] i x lt size = absurd (omega arith)
sent_set test (arc ∷ arcs) (amount ∷ amounts) zero x lt size = omega arith
sent_set test (arc ∷ arcs) (amount ∷ amounts) (suc i) x lt size = omega (arith, sent_set test arcs amounts i x (omega arith) (omega arith))

-- more on an arc moves from its begin to its end, and less the other way
module _ (arcs : List Arc) (amounts : List ℕ) (i x by : ℕ) (lt : i < length arcs) (size : length amounts ≡ length arcs) where
  moved_on : x ≡ slice_index amounts i + by → IsMoved arcs amounts (slice_set amounts i x) (arc_at arcs i).from (arc_at arcs i).to by
  moved_on is u = grind (arith, cond_more, sent_set)

  moved_back : slice_index amounts i ≡ x + by → IsMoved arcs amounts (slice_set amounts i x) (arc_at arcs i).to (arc_at arcs i).from by
  moved_back is u = grind (arith, cond_more, sent_set)

-- the walk from a variable back to the source has come to v: what is sent leads from v
pub record IsMoving (arcs : List Arc) (ranks vias rooms old new : List ℕ) (source target by v : ℕ) : Type 0 where
  pub size : length new ≡ length arcs
  pub rank : 0 < slice_index ranks v
  pub room : by ≤ slice_index rooms v
  pub moved : IsMoved arcs old new v target by
  pub bounded : (i : ℕ) → slice_index new i ≤ slice_index old i + by
  pub untouched : (u : ℕ) → 0 < slice_index ranks u → slice_index ranks u ≤ slice_index ranks v → u ≢ source → slice_index new (slice_index vias u) ≡ slice_index old (slice_index vias u)
  pub along : AreAlong ranks vias old new source

-- two variables of other ranks were reached by other arcs
other_via : {arc : Arc} {amount : ℕ} {ranks rooms : List ℕ} {u v : ℕ} → slice_index ranks u < slice_index ranks v
    → IsLinkedOn arc ranks rooms u ⊎ IsLinkedBack arc amount ranks rooms u → IsLinkedOn arc ranks rooms v ⊎ IsLinkedBack arc amount ranks rooms v → ⊥
other_via {ranks} less (inl h) (inl k) = absurd (omega (arith, ap (slice_index ranks) h.here, ap (slice_index ranks) k.here))
other_via {ranks} less (inl h) (inr k) = absurd (omega (arith, ap (slice_index ranks) k.here))
other_via {ranks} less (inr h) (inl k) = absurd (omega (arith, ap (slice_index ranks) k.here))
other_via {ranks} less (inr h) (inr k) = absurd (omega (arith, ap (slice_index ranks) h.here, ap (slice_index ranks) k.here))

module _ {arcs : List Arc} {ranks vias rooms old new : List ℕ} {source target by v : ℕ} (ways : AreWays arcs old ranks vias rooms source) (other : v ≢ source)
    (h : IsMoving arcs ranks vias rooms old new source target by v) where
  -- by one arc more, what is sent leads from the variable before
  moving_to : (x before : ℕ) → 0 < slice_index ranks before → slice_index ranks before < slice_index ranks v → by ≤ slice_index rooms before
      → x ≤ slice_index old (slice_index vias v) + by → IsMoved arcs new (slice_set new (slice_index vias v) x) before v by
      → IsMoving arcs ranks vias rooms old (slice_set new (slice_index vias v) x) source target by before
  moving_to x before some less room most moved = record {
    size = length-set new (slice_index vias v) x ∙ h.size;
    rank = some;
    room = room;
    moved = λ u. omega (arith, h.moved u, moved u);
    bounded = λ i. let le : slice_index new i ≤ slice_index old i + by = h.bounded i in grind (arith, common_steps);
    untouched = λ u rank le apart. get_or-set_other new (slice_index vias v) (slice_index vias u) x 0 (λ e. other_via (omega arith)
        (subst (λ j. IsLinkedOn (arc_at arcs j) ranks rooms u ⊎ IsLinkedBack (arc_at arcs j) (slice_index old j) ranks rooms u) e (ways.ends u rank apart))
        (ways.ends v h.rank other)) ∙ h.untouched u rank (omega arith) apart;
    along = grind (arith, cases_eq, get_or-set_other);
  }

  -- a step on, where more is sent along the arc that leads to v, or back, where less is sent along the arc that leads from v
  pub moving_more : {next : List ℕ} {before : ℕ}
      → IsSentOn (arc_at arcs (slice_index vias v)) (slice_index vias v) v by before new next ⊎ IsSentBack (arc_at arcs (slice_index vias v)) (slice_index vias v) v by before new next
      → IsMoving arcs ranks vias rooms old next source target by before × (slice_index ranks before < slice_index ranks v)
  moving_more (inl step) =
      let via : ℕ = slice_index vias v in
      let was : slice_index new via ≡ slice_index old via = h.untouched v h.rank (omega arith) other in
      let link : IsLinkedOn (arc_at arcs via) ranks rooms v = on_way (ways.ends v h.rank other) step.here in
      rw (step.sent, step.back) (
        moving_to (slice_index new via + by) (arc_at arcs via).from link.reached link.before (omega (arith, h.room, link.room)) (omega arith)
            (subst (λ w. IsMoved arcs new (slice_set new via (slice_index new via + by)) (arc_at arcs via).from w by) step.here
            (moved_on arcs new via (slice_index new via + by) by (ways.vias_within v h.rank other) h.size refl)),
        link.before,
      )
    where
      on_way : {arc : Arc} {amount : ℕ} → IsLinkedOn arc ranks rooms v ⊎ IsLinkedBack arc amount ranks rooms v → arc.to ≡ v → IsLinkedOn arc ranks rooms v
      on_way (inl on) e = on
      on_way (inr back) e = absurd (omega (arith, back.before, ap (slice_index ranks) e))
  moving_more (inr step) =
      let via : ℕ = slice_index vias v in
      let was : slice_index new via ≡ slice_index old via = h.untouched v h.rank (omega arith) other in
      let link : IsLinkedBack (arc_at arcs via) (slice_index old via) ranks rooms v = back_way (ways.ends v h.rank other) step.here in
      rw (step.sent, step.back) (
        moving_to (slice_index new via - by) (arc_at arcs via).to link.reached link.before (omega (arith, h.room, link.room)) (omega arith)
            (subst (λ w. IsMoved arcs new (slice_set new via (slice_index new via - by)) (arc_at arcs via).to w by) link.here
            (moved_back arcs new via (slice_index new via - by) by (ways.vias_within v h.rank other) h.size (omega (arith, h.room, link.sent)))),
        link.before,
      )
    where
      back_way : {arc : Arc} {amount : ℕ} → IsLinkedOn arc ranks rooms v ⊎ IsLinkedBack arc amount ranks rooms v → arc.to ≢ v → IsLinkedBack arc amount ranks rooms v
      back_way (inl on) ne = absurd (ne on.here)
      back_way (inr back) ne = back

-- an entry that is set
pub set_at : (xs : List ℕ) (u x v : ℕ) → u < length xs → slice_index (slice_set xs u x) v + at u (slice_index xs u) v ≡ slice_index xs v + at u x v
set_at xs u x v lt = grind (arith, cases_eq, eq-eqb, get_or-set_other, get_or-set_same)

-- an entry that is made less
set_less : (xs : List ℕ) (v by u : ℕ) → v < length xs → by ≤ slice_index xs v → slice_index (slice_set xs v (slice_index xs v - by)) u + at v by u ≡ slice_index xs u
set_less xs v by u lt le = grind (arith, cond_more, set_at)

sum_less : (n : ℕ) (xs : List ℕ) (v by : ℕ) → v < n → v < length xs → by ≤ slice_index xs v
    → sum_below n (slice_index (slice_set xs v (slice_index xs v - by))) + by ≡ sum_below n (slice_index xs)
sum_less n xs v by v_lt lt le =
    let new : List ℕ = slice_set xs v (slice_index xs v - by) in
    let one : sum_below n (at v by) ≡ at v by v = sum_one n v (at v by) v_lt (λ j less other. rw (ne_eqb v j (λ e. other (sym e))) refl) in
    let here : at v by v ≡ by = rw (eq-eqb v v refl) refl in
    let all = sum_same n (λ u. slice_index new u + at v by u) (slice_index xs) (λ u less. set_less xs v by u lt le) in
    omega (arith, sum_add n (slice_index new) (at v by), all)

-- what may be sent fits
pub sent_fits : {needs : List ℤ} {arcs : List Arc} {amounts : List ℕ} {places : List ℤ} {excess unmet : List ℕ} (target i : ℕ) → IsState needs arcs amounts places excess unmet
    → target < length needs → slice_index amounts i + slice_index unmet target < 2 ^ 64
sent_fits {needs} {amounts} {unmet} target i state lt = omega (arith, sum_term (length needs) target (slice_index unmet) lt, state.sound i)

-- the state once more is sent
pub sent_state : {needs : List ℤ} {arcs : List Arc} {old : List ℕ} (new : List ℕ) {places : List ℤ} {excess unmet ranks vias rooms : List ℕ} {source count target : ℕ} (by : ℕ)
    → IsGrown needs arcs old places excess unmet ranks vias rooms source count target
    → by ≤ slice_index rooms source → by ≤ slice_index unmet target
    → length new ≡ length old → IsMoved arcs old new source target by → ((i : ℕ) → slice_index new i ≤ slice_index old i + by) → AreAlong ranks vias old new source
    → IsState needs arcs new places (slice_set excess source (slice_index excess source - by)) (slice_set unmet target (slice_index unmet target - by))
sent_state {needs} {arcs} {old} new {excess} {unmet} {source} {target} by h room_le le size moved bounded along =
    record {
      frame = h.state.frame;
      lawful = grind (arith);
      balanced = λ v lt. omega (arith, h.state.balanced v lt, moved v, set_less excess source by v (omega arith) (omega arith), set_less unmet target by v (omega arith) le);
      unmoved = λ v some. h.state.unmoved v (omega (arith, set_less unmet target by v (omega arith) le));
      near = h.state.near;
      amounts_size = size ∙ h.state.amounts_size;
      places_size = h.state.places_size;
      excess_size = length-set excess source (slice_index excess source - by) ∙ h.state.excess_size;
      unmet_size = length-set unmet target (slice_index unmet target - by) ∙ h.state.unmet_size;
      sound = λ i. omega (arith, bounded i, h.state.sound i, sum_less (length needs) unmet target by h.within (omega arith) le);
    }

-- the first i arcs were looked at
pub record AreSummed (arcs : List Arc) (amounts : List ℕ) (places : List ℤ) (most : ℕ) (into out : List ℕ) (i : ℕ) : Type 0 where
  pub into_size : length into ≡ length places
  pub out_size : length out ≡ length places
  pub lawful : (k : ℕ) → k < i → IsLawful (arc_at arcs k) (slice_index amounts k) places
  pub bounded : (k : ℕ) → k < i → slice_index amounts k ≤ most
  pub totals : AreTotals arcs (take i amounts) into out
  pub into_small : (v : ℕ) → slice_index into v ≤ i * 18446744073709551615
  pub out_small : (v : ℕ) → slice_index out v ≤ i * 18446744073709551615

sent_take : (test : Arc → Bool) (arcs : List Arc) (amounts : List ℕ) (i : ℕ) → i < length arcs → length amounts ≡ length arcs
    → sent test arcs (take (suc i) amounts) ≡ sent test arcs (take i amounts) + cond (test (arc_at arcs i)) (slice_index amounts i) 0
sent_take test [] amounts i lt size = absurd (omega arith)
sent_take test (arc ∷ arcs) [] i lt size = absurd (omega arith)
sent_take test (arc ∷ arcs) (amount ∷ amounts) zero lt size = omega (arith, sent_none test arcs 0)
sent_take test (arc ∷ arcs) (amount ∷ amounts) (suc i) lt size = let e = sent_take test arcs amounts i (omega arith) (omega arith) in omega arith

-- one end of an arc
total_more : (end : Arc → ℕ) (arcs : List Arc) (amounts sums : List ℕ) (i v : ℕ) → i < length arcs → length amounts ≡ length arcs → end (arc_at arcs i) < length sums
    → slice_index sums v ≡ sent (λ arc. end arc == v) arcs (take i amounts)
    → slice_index (slice_set sums (end (arc_at arcs i)) (slice_index sums (end (arc_at arcs i)) + slice_index amounts i)) v ≡ sent (λ arc. end arc == v) arcs (take (i + 1) amounts)
total_more end arcs amounts sums i v lt size end_lt h = grind (arith, add-one, cond_more, sent_take, set_at)

small_more : (sums : List ℕ) (u amount n v : ℕ) → u < length sums → ((w : ℕ) → slice_index sums w ≤ n) → slice_index (slice_set sums u (slice_index sums u + amount)) v ≤ n + amount
small_more sums u amount n v lt h = grind (arith, common_steps)

pub summed_more : {arcs : List Arc} {amounts : List ℕ} {places : List ℤ} {most : ℕ} {into out : List ℕ} {i : ℕ} → i < length arcs → length amounts ≡ length arcs
    → (arc_at arcs i).from < length places → (arc_at arcs i).to < length places → slice_index amounts i ≤ most → slice_index amounts i < 18446744073709551616
    → IsLawful (arc_at arcs i) (slice_index amounts i) places → AreSummed arcs amounts places most into out i
    → AreSummed arcs amounts places most (slice_set into (arc_at arcs i).to (slice_index into (arc_at arcs i).to + slice_index amounts i))
    (slice_set out (arc_at arcs i).from (slice_index out (arc_at arcs i).from + slice_index amounts i)) (i + 1)
summed_more {arcs} {amounts} {into} {out} {i} lt size from to le fits lawful h =
    let amount : ℕ = slice_index amounts i in
    let into_lt : (arc_at arcs i).to < length into = omega (arith, h.into_size) in
    let out_lt : (arc_at arcs i).from < length out = omega (arith, h.out_size) in
    record {
      into_size = length-set into (arc_at arcs i).to (slice_index into (arc_at arcs i).to + amount) ∙ h.into_size;
      out_size = length-set out (arc_at arcs i).from (slice_index out (arc_at arcs i).from + amount) ∙ h.out_size;
      lawful = below_more _ _ h.lawful lawful;
      bounded = below_more _ _ h.bounded le;
      totals = record {
        into_is = λ v v_lt. total_more (λ arc. arc.to) arcs amounts into i v lt size into_lt (h.totals.into_is v (omega (arith, h.into_size, length-set {A = ℕ})));
        out_is = λ v v_lt. total_more (λ arc. arc.from) arcs amounts out i v lt size out_lt (h.totals.out_is v (omega (arith, h.out_size, length-set {A = ℕ})));
      };
      into_small = λ v. omega (arith, small_more into (arc_at arcs i).to amount (i * 18446744073709551615) v into_lt h.into_small);
      out_small = λ v. omega (arith, small_more out (arc_at arcs i).from amount (i * 18446744073709551615) v out_lt h.out_small);
    }

pub summed_start : (arcs : List Arc) (amounts : List ℕ) (places : List ℤ) (most : ℕ) → AreSummed arcs amounts places most (zeros (length places)) (zeros (length places)) 0
summed_start arcs amounts places most = record {
  into_size = length-replicate (length places) 0;
  out_size = length-replicate (length places) 0;
  lawful = λ k less. absurd (omega arith);
  bounded = λ k less. absurd (omega arith);
  totals = record {
    into_is = λ v lt. no_ranks (length places) v ∙ sym (sent_none (λ arc. arc.to == v) arcs 0);
    out_is = λ v lt. no_ranks (length places) v ∙ sym (sent_none (λ arc. arc.from == v) arcs 0);
  };
  into_small = λ v. omega (arith, no_ranks (length places) v);
  out_small = λ v. omega (arith, no_ranks (length places) v);
}
