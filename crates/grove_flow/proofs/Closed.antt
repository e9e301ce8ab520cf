-- What a set of variables that no arc leads out of gives and takes, and so where a variable that still has to give can be: between its
-- place and those of the variables that still have to take, each band of places has a variable.
use Rattle.std.proofs.Common.{◌≡◌, ℕ, zero, suc, ◌+◌, ◌*◌, ◌<◌, ◌≤◌, ◌==◌, Bool, true, false, cond, List, [], ◌∷◌, length, slice_index, ℤ, refl, sym, inl, inr, arith, eq-eqb, ne_eqb, ◌⊎◌, pos, ◌≤ℤ◌, eq-zero-or-pos}
use Rattle.std.proofs.lemmas.Bool.{cases_Bool, cond-true, both_ways, cases_eq}
use Rattle.grove_base.specs.Numbers.{sum_below, count_below}
use Rattle.grove_base.proofs.Counting.{sum_add, sum_same, sum_zero, sum_term, count_hit, count_miss, count_le, count_mono}
use Rattle.grove_flow.specs.declared.network.Arc.{Arc}
use Rattle.grove_flow.specs.Networks.{arc_at, AreArcsOf, place, AreLawful}
use Rattle.grove_flow.specs.Flows.{sent, amount_in, amount_out, takes}
use Rattle.grove_flow.specs.States.{double, gives, ArePaired, IsFrame, AreBalanced, AreUnmoved}
use Rattle.std.proofs.lemmas.Int.{by_lt_z}
use lib.Signed.{lt_z}
use borrow.Author.Differences.{ints, lt-true, true_is_lt, up, down}

-- one term alone
pub sum_one : (n k : ℕ) (f : ℕ → ℕ) → k < n → ((j : ℕ) → j < n → (j ≡ k → ⊥) → f j ≡ 0) → sum_below n f ≡ f k
sum_one zero k f lt h = absurd (omega arith)
sum_one (suc n) k f lt h = elim (cases_eq k n) [
  | inl e ↦ grind (arith, sum_zero)
  | inr ne ↦ let rest : sum_below n f ≡ f k = sum_one n k f (omega arith) (λ j less other. h j (omega arith) other) in
      let here : f n ≡ 0 = h n (omega arith) (λ same. ne (sym same)) in omega arith
]

pub double-is : (n : ℕ) → double n ≡ 2 * n
double-is zero = refl
double-is (suc n) = omega (arith, double-is n)

-- f at the chosen variables, and 0 at the others
abbrev pub chosen : (ℕ → Bool) → (ℕ → ℕ) → ℕ → ℕ
chosen s f v = cond (s v) (f v) 0

-- f added up over the chosen variables below n
abbrev pub sum_chosen : ℕ → (ℕ → Bool) → (ℕ → ℕ) → ℕ
sum_chosen n s f = sum_below n (chosen s f)

-- no arc leads out of the chosen variables, and none that has an amount leads into them
pub record IsClosed (arcs : List Arc) (amounts : List ℕ) (s : ℕ → Bool) : Type 0 where
  pub leaves : (i : ℕ) → i < length arcs → s (arc_at arcs i).from ≡ true → s (arc_at arcs i).to ≡ true
  pub enters : (i : ℕ) → i < length arcs → 0 < slice_index amounts i → s (arc_at arcs i).to ≡ true → s (arc_at arcs i).from ≡ true

pub cond_none : (b : Bool) → ◌≡◌ {A = ℕ} (cond b 0 0) 0
cond_none true = refl
cond_none false = refl

pub cond_more : (b : Bool) (x y z : ℕ) → x ≡ y + z → cond b x 0 ≡ cond b y 0 + cond b z 0
cond_more true x y z is = is
cond_more false x y z is = refl

-- what is sent from or to the chosen variables, added up by variables and by arcs
pub sent_at_ends : (end : Arc → ℕ) (s : ℕ → Bool) (n : ℕ) (arcs : List Arc) (amounts : List ℕ) → ((i : ℕ) → i < length arcs → end (arc_at arcs i) < n)
    → sum_below n (chosen s (λ v. sent (λ arc. end arc == v) arcs amounts)) ≡ sent (λ arc. s (end arc)) arcs amounts
sent_at_ends end s n [] amounts h = sum_zero n (chosen s (λ v. 0)) (λ k lt. cond_none (s k))
sent_at_ends end s n (arc ∷ arcs) [] h = sum_zero n (chosen s (λ v. 0)) (λ k lt. cond_none (s k))
sent_at_ends end s n (arc ∷ arcs) (amount ∷ amounts) h =
    let here : ℕ → ℕ = chosen s (λ v. cond (end arc == v) amount 0) in
    let rest : ℕ → ℕ = chosen s (λ v. sent (λ arc. end arc == v) arcs amounts) in
    let one : sum_below n here ≡ here (end arc) = sum_one n (end arc) here (h 0 (omega arith))
    (λ j lt other. rw (ne_eqb (end arc) j (λ e. other (sym e))) (cond_none (s j))) in
    let same : here (end arc) ≡ cond (s (end arc)) amount 0 = rw (eq-eqb (end arc) (end arc) refl) refl in
    omega (
      arith,
      sent_at_ends end s n arcs amounts (λ i lt. h (suc i) (omega arith)),
      sum_add n here rest,
      sum_same n (chosen s (λ v. sent (λ arc. end arc == v) (arc ∷ arcs) (amount ∷ amounts))) (λ k. here k + rest k) (λ k lt. cond_more (s k) _ _ _ refl),
    )

-- an amount counts the same at both ends of an arc, where the arc leads neither out nor, with an amount, in
cond_ends : (from to : Bool) (amount : ℕ) → (from ≡ true → to ≡ true) → (0 < amount → to ≡ true → from ≡ true) → cond from amount 0 ≡ cond to amount 0
cond_ends true to amount h k = rw (h refl) refl
cond_ends false true zero h k = refl
cond_ends false true (suc amount) h k = absurd (both_ways false refl (k (omega arith) refl))
cond_ends false false amount h k = refl

-- as much is sent into a closed set as out of it
pub closed_sent : {s : ℕ → Bool} (arcs : List Arc) (amounts : List ℕ) → IsClosed arcs amounts s
    → sent (λ arc. s arc.from) arcs amounts ≡ sent (λ arc. s arc.to) arcs amounts
closed_sent [] amounts h = refl
closed_sent (arc ∷ arcs) [] h = refl
closed_sent {s} (arc ∷ arcs) (amount ∷ amounts) h =
    let rest = closed_sent {s = s} arcs amounts (record { leaves = λ i lt. h.leaves (suc i) (omega arith); enters = λ i lt. h.enters (suc i) (omega arith) }) in
    omega (arith, cond_ends (s arc.from) (s arc.to) amount (h.leaves 0 (omega arith)) (h.enters 0 (omega arith)), rest)

-- a balance at each variable, added up over the chosen ones
sum_balance : (n : ℕ) (s : ℕ → Bool) (a b c d e f : ℕ → ℕ) → ((v : ℕ) → v < n → a v + b v + c v ≡ d v + e v + f v)
    → sum_chosen n s a + sum_chosen n s b + sum_chosen n s c ≡ sum_chosen n s d + sum_chosen n s e + sum_chosen n s f
sum_balance zero s a b c d e f h = refl
sum_balance (suc n) s a b c d e f h =
    let here : chosen s a n + chosen s b n + chosen s c n ≡ chosen s d n + chosen s e n + chosen s f n =
    elim (s n) as (λ t. cond t (a n) 0 + cond t (b n) 0 + cond t (c n) 0 ≡ cond t (d n) 0 + cond t (e n) 0 + cond t (f n) 0) [ true ↦ h n (omega arith) | false ↦ refl ] in
    omega (arith, sum_balance n s a b c d e f (λ v lt. h v (omega arith)))

-- what a closed set still has to give is what it lacks, needs counted in
pub closed_balance : (needs : List ℤ) {arcs : List Arc} {amounts : List ℕ} (excess unmet : List ℕ) {s : ℕ → Bool}
    → AreArcsOf arcs (length needs) → AreBalanced arcs needs amounts excess unmet → IsClosed arcs amounts s
    → sum_chosen (length needs) s (gives needs) + sum_chosen (length needs) s (slice_index unmet)
    ≡ sum_chosen (length needs) s (takes needs) + sum_chosen (length needs) s (slice_index excess)
closed_balance needs {arcs} {amounts} excess unmet {s} arcs_of balanced closed = omega (
  arith,
  closed_sent arcs amounts closed,
  sent_at_ends (λ arc. arc.to) s (length needs) arcs amounts (λ i lt. (arcs_of i lt).to),
  sent_at_ends (λ arc. arc.from) s (length needs) arcs amounts (λ i lt. (arcs_of i lt).from),
  sum_balance (length needs) s (amount_in arcs amounts) (gives needs) (slice_index unmet) (amount_out arcs amounts) (takes needs) (slice_index excess) balanced,
)

-- where a chosen lock has its release chosen too, the chosen ones give at most what they take
pair_le : (lock release : Bool) (a b : ℕ) → (lock ≡ true → release ≡ true) → a ≡ b → cond lock a 0 ≤ cond release b 0
pair_le true release a b h e = rw (h refl) (omega arith)
pair_le false release a b h e = omega arith

pairs_le : {rows : ℕ} {needs : List ℤ} (s : ℕ → Bool) → ArePaired rows needs → ((k : ℕ) → k < rows → s (double k) ≡ true → s (suc (double k)) ≡ true)
    → (n : ℕ) → n ≤ rows → sum_chosen (double n) s (gives needs) ≤ sum_chosen (double n) s (takes needs)
pairs_le s paired own zero le = omega arith
pairs_le {needs} s paired own (suc n) le =
    let none : chosen s (gives needs) (suc (double n)) ≡ 0 = rw (paired.releases n (omega arith)) (cond_none (s (suc (double n)))) in
    omega (arith, pairs_le s paired own n (omega arith), pair_le (s (double n)) (s (suc (double n))) _ _ (own n (omega arith)) (paired.pairs n (omega arith)))

-- what is needed is given: all together give what they take
pairs_same : {rows : ℕ} {needs : List ℤ} → ArePaired rows needs → (n : ℕ) → n ≤ rows → sum_below (double n) (gives needs) ≡ sum_below (double n) (takes needs)
pairs_same paired zero le = refl
pairs_same paired (suc n) le =
    omega (arith, pairs_same paired n (omega arith), paired.pairs n (omega arith), paired.releases n (omega arith), paired.locks n (omega arith))

-- a closed set with nothing unmet has nothing to give
pub none_to_give : {needs : List ℤ} {arcs : List Arc} {amounts : List ℕ} (excess unmet : List ℕ) {s : ℕ → Bool}
    → IsFrame needs arcs → AreBalanced arcs needs amounts excess unmet → IsClosed arcs amounts s
    → ((v : ℕ) → v < length needs → s v ≡ true → slice_index unmet v ≡ 0) → (v : ℕ) → v < length needs → s v ≡ true → slice_index excess v ≡ 0
none_to_give {needs} {arcs} excess unmet {s} frame balanced closed met v lt picked =
    let own : (k : ℕ) → k < frame.rows → s (double k) ≡ true → s (suc (double k)) ≡ true = λ k less is.
    let (i, i_lt, from, to) = frame.own k less in
    let e : (arc_at arcs i).from ≡ double k = omega (arith, double-is k) in
    let f : (arc_at arcs i).to ≡ suc (double k) = omega (arith, double-is k) in
    rw f at (closed.leaves i i_lt (rw e is)) in
    let base : chosen s (gives needs) (double frame.rows) ≡ 0 = rw frame.paired.base_gives (cond_none (s (double frame.rows))) in
    let all_le : sum_chosen (length needs) s (gives needs) ≤ sum_chosen (length needs) s (takes needs) =
    rw frame.size (omega (arith, pairs_le s frame.paired own frame.rows (omega arith))) in
    let total = closed_balance needs excess unmet (rw (← frame.size) at frame.arcs_of) balanced closed in
    let none = sum_zero (length needs) (chosen s (slice_index unmet)) (λ k less. elim (cases_Bool (s k)) [ inl e ↦ rw e (met k less e) | inr e ↦ rw e refl ]) in
    omega (arith, total, none, cond-true (s v) (slice_index excess v) 0 picked, sum_term (length needs) v (chosen s (slice_index excess)) lt)

-- where nothing is left to give, nothing is unmet
pub none_unmet : {needs : List ℤ} {arcs : List Arc} (amounts excess unmet : List ℕ) → IsFrame needs arcs → AreBalanced arcs needs amounts excess unmet
    → ((v : ℕ) → v < length needs → slice_index excess v ≡ 0) → (v : ℕ) → v < length needs → slice_index unmet v ≡ 0
none_unmet {needs} {arcs} amounts excess unmet frame balanced given v lt =
    let all : ℕ → Bool = λ u. true in
    let closed : IsClosed arcs amounts all = record { leaves = λ i less e. refl; enters = λ i less more e. refl } in
    let total : sum_below (length needs) (gives needs) + sum_below (length needs) (slice_index unmet) ≡ sum_below (length needs) (takes needs) + sum_below (length needs) (slice_index excess) =
    closed_balance needs excess unmet (rw (← frame.size) at frame.arcs_of) balanced closed in
    let same : sum_below (length needs) (gives needs) ≡ sum_below (length needs) (takes needs) =
    rw frame.size (omega (arith, pairs_same frame.paired frame.rows (omega arith), frame.paired.base_gives, frame.paired.base_takes)) in
    omega (arith, sum_term (length needs) v (slice_index unmet) lt, sum_zero (length needs) (slice_index excess) given)

-- a number that passes is counted
count_some : (n k : ℕ) (test : ℕ → Bool) → k < n → test k ≡ true → 1 ≤ count_below n test
count_some n k test lt h = omega (arith, count_mono (suc k) n test lt, count_hit k test h)

-- of two sets, one in the other, the smaller has fewer numbers or is the same
fewer : (n : ℕ) (s t : ℕ → Bool) → ((k : ℕ) → k < n → s k ≡ true → t k ≡ true)
    → (((k : ℕ) → k < n → t k ≡ true → s k ≡ true) × (count_below n s ≤ count_below n t)) ⊎ (suc (count_below n s) ≤ count_below n t)
fewer zero s t h = inl (λ k lt e. absurd (omega arith), omega arith)
fewer (suc n) s t h = elim (fewer n s t (λ k lt. h k (omega arith))) [
  | inr less ↦ grind (arith, cases_Bool, count_hit, count_miss, count_mono)
  | inl (same, le) ↦ grind (arith, both_ways, cases_Bool, cases_eq, count_hit, count_miss)
]

-- of sets each in the one before it, two neighbours are the same, or each has fewer numbers
neighbours : (n b : ℕ) (above : ℕ → ℕ → Bool) → ((c v : ℕ) → above (suc c) v ≡ true → above c v ≡ true)
    → ((c : ℕ) × (c < b) × ((v : ℕ) → v < n → above c v ≡ true → above (suc c) v ≡ true)) ⊎ (count_below n (above b) + b ≤ count_below n (above 0))
neighbours n zero above h = inr (omega arith)
neighbours n (suc b) above h = elim (neighbours n b above h) [
  | inl (c, lt, same) ↦ inl (c, omega arith, same)
  | inr le ↦ elim (fewer n (above (suc b)) (above b) (λ v less. h b v)) [
    | inl (same, few) ↦ inl (b, omega arith, same)
    | inr less ↦ inr (omega arith)
  ]
]

-- the place is above a band
abbrev pub is_above : List ℤ → ℕ → ℕ → Bool
is_above places band v = lt_z (pos (1048576 * (band + 1))) (place places v)

above_out : (places : List ℤ) (band v : ℕ) → is_above places band v ≡ true → 1048576 * (band + 1) + down (place places v) < up (place places v)
above_out places band v e = omega (arith, lt-true (pos (1048576 * (band + 1))) (place places v) e)

above_in : (places : List ℤ) (band v : ℕ) → 1048576 * (band + 1) + down (place places v) < up (place places v) → is_above places band v ≡ true
above_in places band v h = sym (true_is_lt (pos (1048576 * (band + 1))) (place places v) (omega arith))

above_less : (places : List ℤ) (band v : ℕ) → is_above places (suc band) v ≡ true → is_above places band v ≡ true
above_less places band v e = above_in places band v (omega (arith, above_out places (suc band) v e))

-- where no variable lies in a band, what is above it is closed
band_closed : (arcs : List Arc) (amounts : List ℕ) (places : List ℤ) (n c : ℕ) → AreArcsOf arcs n → AreLawful arcs amounts places
    → ((v : ℕ) → v < n → is_above places c v ≡ true → is_above places (suc c) v ≡ true) → IsClosed arcs amounts (is_above places c)
band_closed arcs amounts places n c arcs_of lawful same = grind (arith, above_in, above_out, ints)

-- what is above a band has nothing to take
band_met : (places : List ℤ) (unmet : List ℕ) (c v : ℕ) → AreUnmoved places unmet → is_above places c v ≡ true → slice_index unmet v ≡ 0
band_met places unmet c v unmoved is = grind (arith, above_out, eq-zero-or-pos, ints)

pub excess_low : {needs : List ℤ} {arcs : List Arc} (amounts : List ℕ) (places : List ℤ) (excess unmet : List ℕ)
    → IsFrame needs arcs → AreLawful arcs amounts places → AreBalanced arcs needs amounts excess unmet → AreUnmoved places unmet
    → (v : ℕ) → v < length needs → 0 < slice_index excess v → place places v ≤ℤ pos (1048576 * (length needs + 1))
excess_low {needs} {arcs} amounts places excess unmet frame lawful balanced unmoved v lt some =
    by_lt_z (pos (1048576 * (length needs + 1))) (place places v) (λ high.
    let top : is_above places (length needs) v ≡ true = above_in places (length needs) v (omega (arith, ints, high)) in
    elim (neighbours (length needs) (length needs) (is_above places) (λ c u is. above_less places c u is)) [
      | inl (c, below, same) ↦ let none : slice_index excess v ≡ 0 = none_to_give excess unmet frame balanced
          (band_closed arcs amounts places (length needs) c (rw (← frame.size) at frame.arcs_of) lawful same) (λ u less is. band_met places unmet c u unmoved is)
          v lt (above_in places c v (omega (arith, above_out places (length needs) v top))) in
          absurd (omega arith)
      | inr le ↦ absurd (omega (arith, count_some (length needs) v (is_above places (length needs)) lt top, count_le (length needs) (is_above places 0)))
    ]) (λ low. low)
