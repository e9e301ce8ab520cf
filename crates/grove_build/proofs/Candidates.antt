-- Places that are cut, and numbers that fit and are tight, are lawful places of the network.
use Rattle.std.proofs.Common.{◌≡◌, ℕ, zero, suc, ◌+◌, ◌-◌, ◌*◌, ◌<◌, ◌≤◌, true, List, [], ◌∷◌, map, length, Some, ℤ}
use Rattle.std.proofs.Common.{pos, ◌≤ℤ◌, refl, sym, ◌∙◌, ap, arith}
use Rattle.std.specs.Prelude.{slice_index}
use Rattle.std.specs.List.{slice_get}
use Rattle.std.proofs.lemmas.Int.{ints}
use Rattle.std.proofs.lemmas.Option.{same_Some}
use Rattle.grove_tree.specs.Trees.{Rows, parent_of}
use Rattle.grove_base.proofs.Counting.{least_is, last_is}
use Rattle.grove_base.proofs.Lists.{map_length}
use Rattle.grove_tree.proofs.Tests.{is_at_true, is_at_from}
use Rattle.grove_access.specs.Slots.{slots_before}
use Rattle.grove_access.proofs.Slots.{slots_rise}
use Rattle.grove_access.specs.Forced.{is_accessed, first_access, last_end}
use Rattle.grove_proof.specs.declared.flow.FlowRow.{FlowRow}
use Rattle.grove_proof.specs.Flows.{is_child}
use Rattle.grove_span.specs.declared.row.SpanRow.{SpanRow}
use Rattle.grove_flow.specs.declared.network.Arc.{Arc}
use Rattle.grove_flow.specs.Networks.{no_arc, place, IsLawful, AreLawful, IsCandidate}
use Rattle.grove_build.specs.declared.kinds.Kind.{Kind}
use Rattle.grove_build.specs.declared.kinds.Kind.TheVariants.{Above, Held, First, Last, Own}
use Rattle.grove_build.specs.Networks.{IsSpan, IsReadRow, IsRead, arcs_from, bound, amount_of, pairs}
use Rattle.grove_build.proofs.Fitting.{Fits, AreTight}
use Rattle.grove_build.proofs.Batched.{some_left, some_right}
use Rattle.grove_build.proofs.Pairs.{pairs_size, pairs_lock, pairs_release, pairs_base, pairs_each}
use Rattle.grove_build.proofs.Links.{arcs_each, rows_lawful}
use Rattle.grove_build.proofs.Found.{first_known, last_known, row_spanned, parent_known}
use Rattle.grove_build.proofs.Cut.{Meets, early, late, meets_lawful, IsRowOn, place_map, arc_cut, base_stays}

pos_up : (a b : ℕ) → a ≤ b → pos a ≤ℤ pos b
pos_up a b h = omega (arith, ints)

pub past_end : (places : List ℤ) (v : ℕ) → length places ≤ v → place places v ≡ pos 0
past_end [] v le = refl
past_end (x ∷ xs) zero le = absurd (omega arith)
past_end (x ∷ xs) (suc v) le = past_end xs v (omega arith)

pub nothing_low : (z : ℤ) (n : ℕ) → z ≡ pos 0 → z ≤ℤ pos n
nothing_low z n e = omega (arith, ints)

-- accesses as places
slots_meet : (lengths : List ℕ) (amount a b : ℕ) (low high : ℤ) → low ≡ pos (slots_before lengths a) → high ≡ pos (slots_before lengths b)
    → a ≤ b → (0 < amount → a ≡ b) → Meets amount low high
slots_meet lengths amount a b low high e f le same = grind (arith, ints, slots_rise)

module _ (tree : Rows) (nodes lengths : List ℕ) (rows : List SpanRow) (is_span : IsSpan tree nodes lengths rows) where
  abbrev pub m : ℕ
  m = length nodes

  abbrev pub base : ℕ
  base = 2 * length rows

  abbrev pub arcs : List Arc
  arcs = arcs_from base 0 rows

  -- the slots before the end
  abbrev pub top : ℕ
  top = slots_before lengths m

  -- so many slots lie before some access, or before the end
  abbrev pub IsOn : ℕ → Type 0
  IsOn x = (i : ℕ) × (i ≤ m) × (slots_before lengths i ≡ x)

  pub zero_on : IsOn 0
  zero_on = (0, omega arith, refl)

  pub on_low : (x : ℕ) → IsOn x → x ≤ top
  on_low x on = omega (arith, slots_rise lengths on.0 m on.1, on.2)

  pub row_on : (i : ℕ) (row : SpanRow) → slice_get rows i ≡ Some row → IsRowOn IsOn row
  row_on i row h = record {
    first = λ f e.
        let k = first_known nodes lengths row.node f (sym ((is_span.accesses i row h).from) ∙ e) in
        let lt : first_access nodes row.node < m = k.2 in (first_access nodes row.node, omega arith, k.1);
    last = λ l e.
        let k = last_known nodes lengths row.node l (sym ((is_span.accesses i row h).until) ∙ e) in
        (last_end nodes row.node, k.2, k.1);
  }

  pub base_is : base + 1 - 1 ≡ base
  base_is = omega arith

  -- places that are cut are a candidate again
  pub cut_candidate : (amounts : List ℕ) (f : ℤ → ℤ) → ((a b : ℤ) → a ≤ℤ b → f a ≤ℤ f b) → ((a : ℕ) → IsOn a → f (pos a) ≡ pos a)
      → (places : List ℤ) → length places ≡ base + 1 → AreLawful arcs amounts places → place places base ≡ pos 0
      → ((v : ℕ) → v < base + 1 → f (place places v) ≤ℤ pos top)
      → IsCandidate (base + 1) arcs amounts (pos top) (map f places)
  cut_candidate amounts f rising keeps places size lawful zero_base low = record {
    size = map_length f places ∙ size;
    lawful = λ i lt. arcs_each (λ a. (amount : ℕ) → IsLawful a amount places → IsLawful a amount (map f places)) base rows
        (λ k row kind x g b. arc_cut f IsOn rising keeps zero_on places base zero_base k row (row_on k row g) kind x b)
        i no_arc lt (slice_index amounts i) (lawful i lt);
    base = ap (λ v. place (map f places) v) base_is ∙ base_stays f IsOn rising keeps zero_on places base zero_base;
    capped = grind (arith, place_map, zero_on);
  }

  -- numbers that fit and are tight are a candidate

  module _ (amounts : List ℕ) (flow : List FlowRow) (read : IsRead rows amounts flow) (lock2 release2 : ℕ → ℕ)
      (fits : Fits tree nodes lock2 release2) (tight : AreTight tree nodes flow lock2 release2) where
    abbrev lock_at : SpanRow → ℤ
    lock_at row = pos (slots_before lengths (lock2 row.node))

    abbrev release_at : SpanRow → ℤ
    release_at row = pos (slots_before lengths (release2 row.node))

    -- these numbers as places
    abbrev pub other : List ℤ
    other = pairs lock_at release_at rows

    pub lock_is : (i : ℕ) (row : SpanRow) → slice_get rows i ≡ Some row → place other (2 * i) ≡ lock_at row
    lock_is i row g = pairs_lock lock_at release_at rows i row g

    pub release_is : (i : ℕ) (row : SpanRow) → slice_get rows i ≡ Some row → place other (2 * i + 1) ≡ release_at row
    release_is i row g = pairs_release lock_at release_at rows i row g

    first_fits : (v : ℕ) → is_accessed nodes v ≡ true → lock2 v ≤ first_access nodes v
    first_fits v some = grind (arith, is_at_true, least_is)

    last_fits : (v : ℕ) → is_accessed nodes v ≡ true → last_end nodes v ≤ release2 v
    last_fits v some = grind (arith, is_at_true, last_is)

    is_parent : (f : FlowRow) (row : SpanRow) (g : FlowRow) (over : SpanRow) → f.node ≡ row.node → g.node ≡ over.node
        → parent_of tree row.node ≡ Some over.node → is_child tree f g ≡ true
    is_parent f row g over same same2 up = grind (arith, is_at_from)

    other_meets : (i : ℕ) (row : SpanRow) (f : FlowRow) (kind : Kind) (x : ℕ) → slice_get rows i ≡ Some row
        → slice_get flow i ≡ Some f → f.node ≡ row.node → bound row kind ≡ Some x
        → Meets (amount_of kind f) (early other i kind x) (late other i kind x)
    other_meets i row f Above j g1 g2 same e =
        let q = parent_known tree nodes lengths rows is_span i j row g1 e in
        let fl = some_left IsReadRow rows flow j q.0 read.each q.1 in
        slots_meet lengths f.above (lock2 (q.0).node) (lock2 row.node) (place other (2 * j)) (place other (2 * i))
        (lock_is j q.0 q.1) (lock_is i row g1)
        (fits.above row.node (q.0).node (row_spanned tree nodes lengths rows is_span i row g1)
        (row_spanned tree nodes lengths rows is_span j q.0 q.1) q.2)
        (λ some. ap lock2 (sym (fl.2).node)
        ∙ (tight.above i j f fl.0 g2 fl.1 (is_parent f row fl.0 q.0 same (fl.2).node q.2) some ∙ ap lock2 same))
    other_meets i row f Held j g1 g2 same e =
        let q = parent_known tree nodes lengths rows is_span i j row g1 e in
        let fl = some_left IsReadRow rows flow j q.0 read.each q.1 in
        slots_meet lengths f.held (lock2 row.node) (release2 (q.0).node) (place other (2 * i)) (place other (2 * j + 1))
        (lock_is i row g1) (release_is j q.0 q.1)
        (fits.held row.node (q.0).node (row_spanned tree nodes lengths rows is_span i row g1)
        (row_spanned tree nodes lengths rows is_span j q.0 q.1) q.2)
        (λ some. ap lock2 (sym same)
        ∙ (tight.held i j f fl.0 g2 fl.1 (is_parent f row fl.0 q.0 same (fl.2).node q.2) some ∙ ap release2 (fl.2).node))
    other_meets i row f First x g1 g2 same e =
        let k = first_known nodes lengths row.node x (sym ((is_span.accesses i row g1).from) ∙ e) in
        slots_meet lengths f.first (lock2 row.node) (first_access nodes row.node) (place other (2 * i)) (pos x)
        (lock_is i row g1) (ap (λ n. pos n) (sym k.1)) (first_fits row.node k.0)
        (λ some. ap lock2 (sym same) ∙ (tight.first i f g2 (ap (λ n. is_accessed nodes n) same ∙ k.0) some
        ∙ ap (λ n. first_access nodes n) same))
    other_meets i row f Last x g1 g2 same e =
        let k = last_known nodes lengths row.node x (sym ((is_span.accesses i row g1).until) ∙ e) in
        slots_meet lengths f.last (last_end nodes row.node) (release2 row.node) (pos x) (place other (2 * i + 1))
        (ap (λ n. pos n) (sym k.1)) (release_is i row g1) (last_fits row.node k.0)
        (λ some. ap (λ n. last_end nodes n) (sym same)
        ∙ (tight.last i f g2 (ap (λ n. is_accessed nodes n) same ∙ k.0) some ∙ ap release2 same))
    other_meets i row f Own x g1 g2 same e =
        slots_meet lengths f.own (lock2 row.node) (release2 row.node) (place other (2 * i)) (place other (2 * i + 1))
        (lock_is i row g1) (release_is i row g1) (fits.own row.node (row_spanned tree nodes lengths rows is_span i row g1))
        (λ some. ap lock2 (sym same) ∙ (tight.own i f g2 some ∙ ap release2 same))

    pub other_candidate : IsCandidate (base + 1) arcs amounts (pos top) other
    other_candidate = record {
      size = pairs_size lock_at release_at rows;
      lawful = rows_lawful base rows amounts flow read other (λ i row f kind x g1 g2 b.
          let r = some_right IsReadRow rows flow i f read.each g2 in
          meets_lawful base i other (pairs_base lock_at release_at rows) kind x (amount_of kind f)
          (other_meets i row f kind x g1 g2 ((r.2).node ∙ ap (λ (s : SpanRow). s.node) (same_Some r.0 row (sym r.1 ∙ g1))) b));
      base = ap (λ v. place other v) base_is ∙ pairs_base lock_at release_at rows;
      capped = λ v lt. pairs_each lock_at release_at (λ z. z ≤ℤ pos top) (pos_up 0 top (omega arith)) rows (λ k row g.
          grind (arith, pos_up, row_spanned, slots_rise)) v;
    }
