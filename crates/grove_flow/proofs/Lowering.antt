-- Places that are lowered: what stays below them, and how far they fall.
use Rattle.std.proofs.Common.{◌≡◌, ℕ, ◌+◌, ◌-◌, ◌<◌, ◌≤◌, Bool, true, false, List, length, slice_index, slice_set, ℤ}
use Rattle.std.proofs.Common.{negsuc, ◌+ℤ◌, ◌-ℤ◌, ◌≤ℤ◌, refl, sym, ◌∙◌, subst, inl, inr, arith}
use Rattle.std.proofs.lemmas.Bool.{cases_eq, cases_lt, cases_Bool, both_ways}
use Rattle.std.proofs.lemmas.List.{get_or_past}
use Rattle.std.proofs.lemmas.List.Sums.{sum_by-set}
use Rattle.std.proofs.lemmas.Grind.{common_steps}
use lib.Signed.{lt_z}
use borrow.Author.Differences.{ints, lt_out, le_out, at_most_in, below_in, lt-true}
use Rattle.grove_flow.specs.declared.network.Arc.{Arc}
use Rattle.grove_flow.specs.Networks.{arc_at, place, IsLawful, AreLawful, AreAtMost, IsCandidate, IsLatest}
use Rattle.grove_flow.specs.declared.settling.Way.{Way}
use Rattle.grove_flow.specs.declared.settling.Way.TheVariants.{Forward, Backward}
use Rattle.grove_flow.specs.Ways.{arc_on}
use Rattle.grove_flow.specs.Floors.{AreHeld, AreHighest, HasFloor, HaveFloor, IsKept, AreKept, IsLoweredAt, heights}

-- a place that is set to a value above a low place stays above it
set_below : (low old : List ℤ) (v : ℕ) (most : ℤ) → v < length old → AreAtMost low old → place low v ≤ℤ most
    → AreAtMost low (slice_set old v most)
set_below low old v most lt below le u = grind (arith, common_steps)

-- a place that is set to less makes no place higher
set_down : (old : List ℤ) (v : ℕ) (most : ℤ) → v < length old → most ≤ℤ place old v
    → AreAtMost (slice_set old v most) old
set_down old v most lt le u = grind (arith, common_steps, ints)

-- a place that is lowered makes the heights less
pub lowered_heights : {v : ℕ} {most : ℤ} {old new : List ℤ} → v < length old → negsuc 9223372036854775807 ≤ℤ most → IsLoweredAt v most old new → heights new < heights old
lowered_heights {v} {most} {old} lt held h = grind (arith, le_out, lt_out, sum_by-set)

-- what is lawful on an arc stays below where a place is lowered to what the arc allows
lowered_kept : {arc : Arc} {amount v : ℕ} {most : ℤ} {old new : List ℤ} → v < length old → IsLoweredAt v most old new
    → ((low : List ℤ) → IsLawful arc amount low → AreAtMost low old → place low v ≤ℤ most) → IsKept arc amount old new
lowered_kept {v} {most} {old} lt h most_is = grind (arith, at_most_in, lt_out, set_below, set_down)

pub from_kept : {arc : Arc} {amount : ℕ} {old new : List ℤ} → arc.from < length old → IsLoweredAt arc.from (place old arc.to -ℤ arc.least) old new → IsKept arc amount old new
from_kept {arc} lt h = lowered_kept lt h (λ low lawful below. omega (arith, ints, lawful.met, below arc.to))

pub to_kept : {arc : Arc} {amount : ℕ} {old new : List ℤ} → arc.to < length old → 0 < amount → IsLoweredAt arc.to (place old arc.from +ℤ arc.least) old new → IsKept arc amount old new
to_kept {arc} lt some h = lowered_kept lt h (λ low lawful below. omega (arith, ints, lawful.tight some, below arc.from))

-- the place that an arc begins at is lowered no lower than a floor
pub from_held : (arc : Arc) (amount : ℕ) (old : List ℤ) → HasFloor arc amount old → negsuc 9223372036854775807 ≤ℤ (place old arc.to -ℤ arc.least)
from_held arc amount old (low, floor) = omega (arith, ints, floor.held arc.from, floor.below arc.to)

-- nor is the place that it ends at, where an amount is sent along it
pub to_held : (arc : Arc) (amount : ℕ) (old : List ℤ) → 0 < amount → HasFloor arc amount old → negsuc 9223372036854775807 ≤ℤ (place old arc.from +ℤ arc.least)
to_held arc amount old some (low, floor) = omega (arith, ints, floor.held arc.to, floor.below arc.from, floor.lawful.tight some)

-- where the first place was not lowered, and the second may have been
pub to_either : {arc : Arc} {amount : ℕ} {old mid new : List ℤ} (result : Bool) → mid ≡ old → arc.to < length old → 0 < amount
    → (result ≡ true → IsLoweredAt arc.to (place mid arc.from +ℤ arc.least) mid new) → (result ≡ false → new ≡ mid) → IsKept arc amount old new
to_either {arc} result e lt some lowered still = elim (cases_Bool result) [
  | inl yes_it ↦ to_kept lt some (rw e at (lowered yes_it))
  | inr no_it ↦ rw (still no_it, e) (record { above = λ low lawful below. below; down = λ v. omega (arith, ints) })
]

pub to_heights : {arc : Arc} (amount : ℕ) {old mid new : List ℤ} → mid ≡ old → arc.to < length old → 0 < amount → HasFloor arc amount old
    → IsLoweredAt arc.to (place mid arc.from +ℤ arc.least) mid new → heights new < heights old
to_heights {arc} amount {old} e lt some floor lowered = lowered_heights lt (to_held arc amount old some floor) (rw e at lowered)

pub lowered_at : (old : List ℤ) (v : ℕ) (most : ℤ) → lt_z most (place old v) ≡ true → IsLoweredAt v most old (slice_set old v most)
lowered_at old v most e = record { below = below_in most (place old v) (omega (arith, lt-true most (place old v) e)); set = refl }

pub kept_kept : {arcs : List Arc} {amounts : List ℕ} {old mid new : List ℤ} → AreKept arcs amounts old mid → AreKept arcs amounts mid new → AreKept arcs amounts old new
kept_kept {old} {mid} {new} h k = grind (arith, ints)

pub kept_floor : {arcs : List Arc} {amounts : List ℕ} {old new : List ℤ} → AreKept arcs amounts old new → HaveFloor arcs amounts old → HaveFloor arcs amounts new
kept_floor h (low, floor) = (low, record { lawful = floor.lawful; below = h.above low floor.lawful floor.below; held = floor.held })

-- so many arcs were looked at
pub record IsSwept (way : Way) (steps : ℕ) (arcs : List Arc) (amounts : List ℕ) (old new : List ℤ) (lowered : Bool) : Type 0 where
  pub size : length new ≡ length old
  pub kept : AreKept arcs amounts old new
  pub falls : lowered ≡ true → heights new < heights old
  pub still : lowered ≡ false → new ≡ old
  pub lawful : lowered ≡ false → (k : ℕ) → k < steps → IsLawful (arc_at arcs (arc_on way k (length arcs))) (slice_index amounts (arc_on way k (length arcs))) new

-- an arc that has a place lowered
pub swept_lowered : {way : Way} {k : ℕ} (i : ℕ) {arcs : List Arc} {amounts : List ℕ} {old mid new : List ℤ} {lowered : Bool} → i < length arcs → IsSwept way k arcs amounts old mid lowered
    → length new ≡ length mid → IsKept (arc_at arcs i) (slice_index amounts i) mid new → heights new < heights mid → IsSwept way (k + 1) arcs amounts old new true
swept_lowered i {old} {mid} {new} {lowered} lt h size kept less = record {
  size = size ∙ h.size;
  kept = kept_kept h.kept (record { above = λ low lawful below. kept.above low (lawful i lt) below; down = kept.down });
  falls = grind (arith, cases_Bool);
  still = λ e. absurd (both_ways true e refl);
  lawful = λ e j lt. absurd (both_ways true e refl);
}

-- an arc that is lawful
pub swept_still : {way : Way} {k : ℕ} (i : ℕ) {arcs : List Arc} {amounts : List ℕ} {old mid : List ℤ} (new : List ℤ) {lowered : Bool} → i ≡ arc_on way k (length arcs) → IsSwept way k arcs amounts old mid lowered
    → new ≡ mid → IsLawful (arc_at arcs i) (slice_index amounts i) mid → IsSwept way (k + 1) arcs amounts old new lowered
swept_still {way} {k} i {arcs} {amounts} {old} {mid} new {lowered} is h e lawful =
    subst (λ xs. IsSwept way (k + 1) arcs amounts old xs lowered) (sym e) (record {
      size = h.size;
      kept = h.kept;
      falls = h.falls;
      still = h.still;
      lawful = grind (arith, cases_eq);
    })

-- each arc has its turn, in either order
arc_turn : (way : Way) (i n : ℕ) → i < n → (k : ℕ) × (k < n) × (arc_on way k n ≡ i)
arc_turn Forward i n lt = (i, lt, refl)
arc_turn Backward i n lt = (n - 1 - i, omega arith, omega arith)

pub swept_lawful : {way : Way} {arcs : List Arc} {amounts : List ℕ} {old new : List ℤ} {lowered : Bool} → IsSwept way (length arcs) arcs amounts old new lowered → lowered ≡ false → AreLawful arcs amounts new
swept_lawful {way} {arcs} {amounts} {new} h e i lt =
    let (k, k_lt, is) = arc_turn way i (length arcs) lt in
    subst (λ j. IsLawful (arc_at arcs j) (slice_index amounts j) new) is (h.lawful e k k_lt)

-- the places of a candidate are below the highest ones
candidate_below : {n : ℕ} {arcs : List Arc} {amounts : List ℕ} {top : ℤ} {low highest : List ℤ}
    → IsCandidate n arcs amounts top low → AreHighest n top highest → AreAtMost low highest
candidate_below {n} {low} {highest} h high v = grind (arith, cases_lt, get_or_past, ints)

-- what the lowering begins with
pub highest_floor : {n : ℕ} {arcs : List Arc} {amounts : List ℕ} {top : ℤ} {low highest : List ℤ} → IsCandidate n arcs amounts top low → AreHighest n top highest → AreHeld low → HaveFloor arcs amounts highest
highest_floor {low} h high held = (low, record { lawful = h.lawful; below = candidate_below h high; held = held })

-- lawful places that every candidate stayed below are the latest
pub latest_is : {n : ℕ} {arcs : List Arc} {amounts : List ℕ} {top : ℤ} {low highest new : List ℤ} → IsCandidate n arcs amounts top low → AreHighest n top highest
    → length new ≡ length highest → AreLawful arcs amounts new → AreKept arcs amounts highest new → IsLatest n arcs amounts top new
latest_is {n} {top} {low} {highest} {new} h high same lawful kept = record {
  candidate = record {
    size = same ∙ high.size;
    lawful = lawful;
    base = omega (arith, ints, kept.down (n - 1), kept.above low h.lawful (candidate_below h high) (n - 1));
    capped = grind (arith, cases_lt, ints);
  };
  greatest = λ other candidate. kept.above other candidate.lawful (candidate_below candidate high);
}

-- the places before the i-th were raised to the top
pub record AreRaisedTo (i : ℕ) (top : ℤ) (old new : List ℤ) : Type 0 where
  pub size : length new ≡ length old
  pub done : (v : ℕ) → v < i → place new v ≡ top
  pub held : (v : ℕ) → v < i → negsuc 9223372036854775807 ≤ℤ place old v
  pub rest : (v : ℕ) → i ≤ v → place new v ≡ place old v
