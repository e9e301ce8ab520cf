-- The latest places are the greatest numbers that fit the list and are tight along the flow.
use Rattle.std.proofs.Common.{◌≡◌, ℕ, suc, ◌+◌, ◌*◌, ◌<◌, ◌≤◌, true, List, map, length, Some, None, ℤ, pos, ◌≤ℤ◌, refl}
use Rattle.std.proofs.Common.{sym, ◌∙◌, ap, subst, arith}
use Rattle.std.specs.List.{slice_get}
use Rattle.std.proofs.lemmas.Int.{ints}
use Rattle.std.proofs.lemmas.Bool.{cond-true, cases_lt}
use Rattle.grove_tree.specs.Trees.{Rows, parent_of}
use Rattle.grove_base.proofs.Counting.{least_is, last_is}
use Rattle.grove_tree.proofs.Tests.{is_at_true}
use Rattle.grove_access.specs.Slots.{slots_before}
use Rattle.grove_access.proofs.Slots.{slots_rise, slots_back, slots_tell}
use Rattle.grove_access.specs.Forced.{IsForcedByTree, is_accessed, first_access, last_end}
use Rattle.grove_access.proofs.ForcedByTree.{accessed_is_forced}
use Rattle.grove_proof.specs.declared.flow.FlowRow.{FlowRow}
use Rattle.grove_proof.specs.Flows.{is_child}
use Rattle.grove_span.specs.declared.row.SpanRow.{SpanRow}
use Rattle.grove_flow.specs.declared.network.Arc.{Arc}
use Rattle.grove_flow.specs.Networks.{place, IsCandidate, IsLatest}
use Rattle.grove_build.specs.declared.kinds.Kind.{Kind}
use Rattle.grove_build.specs.declared.kinds.Kind.TheVariants.{Above, Held, First, Last, Own}
use Rattle.grove_build.specs.Networks.{IsSpan, IsReadRow, IsRead, arcs_from, bound, amount_of}
use Rattle.grove_build.proofs.Fitting.{Fits, AreTight, ArePlaces}
use Rattle.grove_build.proofs.Batched.{some_left, some_right}
use Rattle.grove_build.proofs.Links.{lawful_rows}
use Rattle.grove_build.proofs.Found.{first_is_least, row_of_node, row_spanned, parent_found}
use Rattle.grove_build.proofs.Cut.{early, late, lawful_meets, place_map, raised, raised_is, raised_most, raised_least, raised_rises, raised_keeps}
use Rattle.grove_build.proofs.Candidates.{base_is, cut_candidate, nothing_low, other, other_candidate, lock_is, release_is, past_end, zero_on}

pos_back : (a b : ℕ) (x y : ℤ) → pos a ≡ x → pos b ≡ y → x ≤ℤ y → a ≤ b
pos_back a b x y e f h = omega (arith, ints)

pos_same : (a b : ℕ) (x y : ℤ) → pos a ≡ x → pos b ≡ y → x ≡ y → a ≡ b
pos_same a b x y e f h = omega (arith, ints)

module _ (tree : Rows) (nodes lengths : List ℕ) (rows : List SpanRow) (is_span : IsSpan tree nodes lengths rows)
    (amounts : List ℕ) (places : List ℤ)
    (latest : IsLatest (2 * length rows + 1) (arcs_from (2 * length rows) 0 rows) amounts (pos (slots_before lengths (length nodes))) places)
  where
    abbrev m : ℕ
    m = length nodes

    abbrev base : ℕ
    base = 2 * length rows

    abbrev arcs : List Arc
    arcs = arcs_from base 0 rows

    abbrev top : ℕ
    top = slots_before lengths m

    abbrev IsOn : ℕ → Type 0
    IsOn x = (i : ℕ) × (i ≤ m) × (slots_before lengths i ≡ x)

    at_base : place places base ≡ pos 0
    at_base = ap (λ v. place places v) (sym (base_is tree nodes lengths rows is_span)) ∙ latest.candidate.base

    -- no latest place comes after all slots
    latest_low : (v : ℕ) → place places v ≤ℤ pos top
    latest_low v = grind (arith, cases_lt, nothing_low, past_end)

    -- each latest place stands between two accesses, before the first one or after the last
    pub latest_on : (v : ℕ) → (i : ℕ) × (i ≤ m) × (place places v ≡ pos (slots_before lengths i))
    latest_on v =
        let slots : ℕ → ℕ = slots_before lengths in
        let lift : ℤ → ℤ = raised (slots_before lengths) m in
        let keeps : (a : ℕ) → IsOn a → raised (slots_before lengths) m (pos a) ≡ pos a = λ a on.
        let P : ℕ → Type 0 = λ x. raised (slots_before lengths) m (pos x) ≡ pos x in
        subst P on.2 (raised_keeps (slots_before lengths) one_more m on.0 on.1) in
        let cand : IsCandidate (base + 1) arcs amounts (pos top) (map lift places) =
        cut_candidate tree nodes lengths rows is_span amounts lift (raised_rises (slots_before lengths) one_more m) keeps places latest.candidate.size
        latest.candidate.lawful at_base (λ u lt. raised_most (slots_before lengths) one_more m (place places u)) in
        let a : place (map lift places) v ≤ℤ place places v = latest.greatest (map lift places) cand v in
        let b : place (map lift places) v ≡ raised (slots_before lengths) m (place places v) = place_map lift places v (keeps 0 (zero_on tree nodes lengths rows is_span)) in
        let c : place places v ≤ℤ raised (slots_before lengths) m (place places v) =
        raised_least (slots_before lengths) one_more m (place places v) (latest_low v) in
        let r = raised_is (slots_before lengths) one_more m (place places v) in
        grind (arith, ints, raised)
      where
        one_more : (i : ℕ) → slots_before lengths i ≤ slots_before lengths (suc i)
        one_more i = slots_rise lengths i (suc i) (omega arith)

    module _ (flow : List FlowRow) (read : IsRead rows amounts flow) (lock release : ℕ → ℕ)
        (low : (k : ℕ) (row : SpanRow) → slice_get rows k ≡ Some row → (lock row.node ≤ m) × (release row.node ≤ m))
        (locks : (k : ℕ) (row : SpanRow) → slice_get rows k ≡ Some row
        → pos (slots_before lengths (lock row.node)) ≡ place places (2 * k))
        (releases : (k : ℕ) (row : SpanRow) → slice_get rows k ≡ Some row
        → pos (slots_before lengths (release row.node)) ≡ place places (2 * k + 1)) where
      first_within : (v : ℕ) → is_accessed nodes v ≡ true → first_access nodes v ≤ m
      first_within v some = grind (arith, least_is)

      last_within : (v : ℕ) → is_accessed nodes v ≡ true → last_end nodes v ≤ m
      last_within v some = grind (arith, last_is)

      -- the slots before accesses tell these, so what is asked of places is asked of accesses
      told : (i : ℕ) (row : SpanRow) (f : FlowRow) (kind : Kind) (x a b : ℕ) → slice_get rows i ≡ Some row → slice_get flow i ≡ Some f
          → bound row kind ≡ Some x → a ≤ m → b ≤ m → pos (slots_before lengths a) ≡ early places i kind x
          → pos (slots_before lengths b) ≡ late places i kind x → (a ≤ b) × (0 < amount_of kind f → a ≡ b)
      told i row f kind x a b g1 g2 e within below low_is high_is =
          let meets = lawful_meets base i places at_base kind x (amount_of kind f)
          (lawful_rows base rows amounts flow read places latest.candidate.lawful i row f kind x g1 g2 e) in
          grind (arith, pos_back, pos_same, slots_back, slots_tell)

      module _ (i : ℕ) (row : SpanRow) (f : FlowRow) (g1 : slice_get rows i ≡ Some row) (g2 : slice_get flow i ≡ Some f) where
        above_told : (j : ℕ) (over : SpanRow) → row.parent ≡ Some j → slice_get rows j ≡ Some over
            → (lock over.node ≤ lock row.node) × (0 < f.above → lock over.node ≡ lock row.node)
        above_told j over e h =
            told i row f Above j (lock over.node) (lock row.node) g1 g2 e (low j over h).0 (low i row g1).0 (locks j over h) (locks i row g1)

        held_told : (j : ℕ) (over : SpanRow) → row.parent ≡ Some j → slice_get rows j ≡ Some over
            → (lock row.node ≤ release over.node) × (0 < f.held → lock row.node ≡ release over.node)
        held_told j over e h =
            told i row f Held j (lock row.node) (release over.node) g1 g2 e (low i row g1).0 (low j over h).1 (locks i row g1) (releases j over h)

        first_told : is_accessed nodes row.node ≡ true
            → (lock row.node ≤ first_access nodes row.node) × (0 < f.first → lock row.node ≡ first_access nodes row.node)
        first_told some =
            told i row f First (slots_before lengths (first_access nodes row.node)) (lock row.node) (first_access nodes row.node) g1 g2
            ((is_span.accesses i row g1).from
            ∙ cond-true (is_accessed nodes row.node) (Some (slots_before lengths (first_access nodes row.node))) None some)
            (low i row g1).0 (first_within row.node some) (locks i row g1) refl

        last_told : is_accessed nodes row.node ≡ true
            → (last_end nodes row.node ≤ release row.node) × (0 < f.last → last_end nodes row.node ≡ release row.node)
        last_told some =
            told i row f Last (slots_before lengths (last_end nodes row.node)) (last_end nodes row.node) (release row.node) g1 g2
            ((is_span.accesses i row g1).until
            ∙ cond-true (is_accessed nodes row.node) (Some (slots_before lengths (last_end nodes row.node))) None some)
            (last_within row.node some) (low i row g1).1 refl (releases i row g1)

        own_told : (lock row.node ≤ release row.node) × (0 < f.own → lock row.node ≡ release row.node)
        own_told =
            told i row f Own 0 (lock row.node) (release row.node) g1 g2 refl (low i row g1).0 (low i row g1).1 (locks i row g1) (releases i row g1)

      -- they fit

      -- the row of a node, and that of the flow beside it
      at_node : (v : ℕ) → IsForcedByTree tree nodes v → (k : ℕ) × (row : SpanRow) × (f : FlowRow) × (slice_get rows k ≡ Some row)
          × (slice_get flow k ≡ Some f) × (row.node ≡ v)
      at_node v sv =
          let r = row_of_node tree nodes lengths rows is_span v sv in
          grind (arith, some_left)

      le_at : (a b x y : ℕ) → a ≤ b → a ≡ x → b ≡ y → x ≤ y
      le_at a b x y le e f = omega arith

      pub latest_fits : Fits tree nodes lock release
      latest_fits = record {
        above = λ v p sv sp up.
            let r = at_node v sv in
            let q = parent_found tree nodes lengths rows is_span r.0 p r.1 r.3 (ap (λ n. parent_of tree n) r.5 ∙ up) sp in
            le_at _ _ _ _ (above_told r.0 r.1 r.2 r.3 r.4 q.0 q.1 q.2 q.3).0 (ap lock q.4) (ap lock r.5);
        held = λ v p sv sp up.
            let r = at_node v sv in
            let q = parent_found tree nodes lengths rows is_span r.0 p r.1 r.3 (ap (λ n. parent_of tree n) r.5 ∙ up) sp in
            le_at _ _ _ _ (held_told r.0 r.1 r.2 r.3 r.4 q.0 q.1 q.2 q.3).0 (ap lock r.5) (ap release q.4);
        first = λ v a h.
            let r = at_node v (accessed_is_forced tree nodes a v h) in
            let l = first_is_least nodes (r.1).node a (h ∙ ap (λ (n : ℕ). Some n) (sym r.5)) in
            let before : first_access nodes (r.1).node ≤ a = l.1 in
            let le : lock (r.1).node ≤ first_access nodes (r.1).node = (first_told r.0 r.1 r.2 r.3 r.4 l.0).0 in
            le_at (lock (r.1).node) a _ _ (omega arith) (ap lock r.5) refl;
        last = λ v a h.
            let r = at_node v (accessed_is_forced tree nodes a v h) in
            let l = first_is_least nodes (r.1).node a (h ∙ ap (λ (n : ℕ). Some n) (sym r.5)) in
            let after : suc a ≤ last_end nodes (r.1).node = l.2 in
            let le : last_end nodes (r.1).node ≤ release (r.1).node = (last_told r.0 r.1 r.2 r.3 r.4 l.0).0 in
            le_at (suc a) (release (r.1).node) _ _ (omega arith) refl (ap release r.5);
        own = λ v sv.
            let r = at_node v sv in
            le_at _ _ _ _ (own_told r.0 r.1 r.2 r.3 r.4).0 (ap lock r.5) (ap release r.5);
        top = λ v sv.
            let r = at_node v sv in le_at _ _ _ _ (low r.0 r.1 r.3).1 (ap release r.5) refl;
      }

      -- they are tight

      tight_parent : (i j : ℕ) (f g : FlowRow) → slice_get flow i ≡ Some f → slice_get flow j ≡ Some g
          → is_child tree f g ≡ true
          → (0 < f.above → lock g.node ≡ lock f.node) × (0 < f.held → lock f.node ≡ release g.node)
      tight_parent i j f g a b child =
          let x = some_right IsReadRow rows flow i f read.each a in
          let y = some_right IsReadRow rows flow j g read.each b in
          let up : parent_of tree (x.0).node ≡ Some g.node =
          ap (λ n. parent_of tree n) (sym (x.2).node) ∙ is_at_true g.node (parent_of tree f.node) child in
          let spanned : IsForcedByTree tree nodes g.node =
          subst (IsForcedByTree tree nodes) (sym (y.2).node) (row_spanned tree nodes lengths rows is_span j y.0 y.1) in
          let q = parent_found tree nodes lengths rows is_span i g.node x.0 x.1 up spanned in (
            λ some. ap lock (sym q.4) ∙ ((above_told i x.0 f x.1 a q.0 q.1 q.2 q.3).1 some ∙ ap lock (sym (x.2).node)),
            λ some. ap lock (x.2).node ∙ ((held_told i x.0 f x.1 a q.0 q.1 q.2 q.3).1 some ∙ ap release q.4),
          )

      pub latest_tight : AreTight tree nodes flow lock release
      latest_tight = record {
        above = λ i j f g a b child. (tight_parent i j f g a b child).0;
        held = λ i j f g a b child. (tight_parent i j f g a b child).1;
        first = λ i f a some p.
            let x = some_right IsReadRow rows flow i f read.each a in
            ap lock (x.2).node ∙ ((first_told i x.0 f x.1 a (ap (λ n. is_accessed nodes n) (sym (x.2).node) ∙ some)).1 p
            ∙ ap (λ n. first_access nodes n) (sym (x.2).node));
        last = λ i f a some p.
            let x = some_right IsReadRow rows flow i f read.each a in
            ap (λ n. last_end nodes n) (x.2).node
            ∙ ((last_told i x.0 f x.1 a (ap (λ n. is_accessed nodes n) (sym (x.2).node) ∙ some)).1 p ∙ ap release (sym (x.2).node));
        own = λ i f a p.
            let x = some_right IsReadRow rows flow i f read.each a in
            ap lock (x.2).node ∙ ((own_told i x.0 f x.1 a).1 p ∙ ap release (sym (x.2).node));
      }

      -- and no others are greater
      other_below : (lock2 release2 : ℕ → ℕ) → Fits tree nodes lock2 release2 → AreTight tree nodes flow lock2 release2
          → (v : ℕ) → IsForcedByTree tree nodes v → (lock2 v ≤ lock v) × (release2 v ≤ release v)
      other_below lock2 release2 fits tight v sv =
          let r = row_of_node tree nodes lengths rows is_span v sv in
          let P : ℕ → Type 0 = λ n. (lock2 n ≤ lock n) × (release2 n ≤ release n) in
          let s = row_spanned tree nodes lengths rows is_span r.0 r.1 r.2 in
          let own : lock2 (r.1).node ≤ release2 (r.1).node = fits.own (r.1).node s in
          let end : release2 (r.1).node ≤ m = fits.top (r.1).node s in
          let below = latest.greatest (other tree nodes lengths rows is_span amounts flow read lock2 release2 fits tight)
          (other_candidate tree nodes lengths rows is_span amounts flow read lock2 release2 fits tight) in
          let back : (a b : ℕ) → a ≤ m → slots_before lengths a ≤ slots_before lengths b → a ≤ b = λ a b within le.
          let paired : length lengths ≡ m = is_span.paired in slots_back lengths a b is_span.are_lengths (omega arith) le in
          subst P r.3 (
            back (lock2 (r.1).node) (lock (r.1).node) (omega arith)
                (pos_back (slots_before lengths (lock2 (r.1).node)) (slots_before lengths (lock (r.1).node)) _ _
                (sym (lock_is tree nodes lengths rows is_span amounts flow read lock2 release2 fits tight r.0 r.1 r.2)) (locks r.0 r.1 r.2)
                (below (2 * r.0))),
            back (release2 (r.1).node) (release (r.1).node) end
                (pos_back (slots_before lengths (release2 (r.1).node)) (slots_before lengths (release (r.1).node)) _ _
                (sym (release_is tree nodes lengths rows is_span amounts flow read lock2 release2 fits tight r.0 r.1 r.2)) (releases r.0 r.1 r.2)
                (below (2 * r.0 + 1))),
          )

      pub latest_are_places : ArePlaces tree nodes flow lock release
      latest_are_places = grind (arith, latest_fits, latest_tight, other_below)
