-- Amounts that meet the needs of the network balance the flow's rows.
use Rattle.std.proofs.Common.{◌≡◌, ℕ, ◌+◌, ◌*◌, ◌<◌, Bool, true, false, cond, eqb, List, length, Option, Some, None, ℤ, pos, neg_ℤ, ◌+ℤ◌, refl, sym, ◌∙◌, ap, ap₂, subst, arith, eqb-true, eq-eqb, ne_eqb}
use Rattle.std.specs.List.{slice_get, sum_by}
use Rattle.std.proofs.lemmas.Int.{ints}
use Rattle.std.proofs.lemmas.Option.{same_Some, slice_get_within}
use Rattle.grove_tree.specs.Trees.{Rows, parent_of, weight_of, is_at}
use Rattle.grove_base.proofs.Counting.{passing_once, same_tests}
use Rattle.grove_base.proofs.Lists.{get_map, map_length}
use Rattle.grove_tree.proofs.Tests.{is_at_true, is_at_from}
use Rattle.grove_access.specs.Forced.{is_forced}
use Rattle.grove_proof.specs.declared.flow.FlowRow.{FlowRow}
use Rattle.grove_proof.specs.Flows.{is_child, child_sum, is_lock_balanced, is_release_balanced}
use Rattle.grove_proof.proofs.Sums.{sums_add, sums_one, sums_zero}
use Rattle.grove_span.specs.declared.row.SpanRow.{SpanRow}
use Rattle.grove_span.specs.SpanRows.{node_of_row}
use Rattle.grove_flow.specs.declared.network.Arc.{Arc}
use Rattle.grove_flow.specs.Networks.{place}
use Rattle.grove_flow.specs.Flows.{amount_in, amount_out, IsSolution}
use Rattle.grove_build.specs.declared.kinds.Kind.TheVariants.{Above, Held, First, Last, Own}
use Rattle.grove_build.specs.Networks.{IsSpan, IsReadRow, IsRead, arc_to, amount_of, arcs_from, needs_of, weights_of}
use Rattle.grove_build.proofs.Batched.{some_right}
use Rattle.grove_build.proofs.Found.{row_spanned, parent_found, parent_known}
use Rattle.grove_build.proofs.Links.{Link, worth, row_sum, sent_rows}
use Rattle.grove_build.proofs.Pairs.{pairs_lock, pairs_release, pairs_size}
use Rattle.grove_flow.proofs.Closed.{cond_none}

-- Even and odd variables.

even_test : (a b : ℕ) → eqb (2 * a) (2 * b) ≡ eqb a b
even_test a b = grind (arith, eq-eqb, eqb-true, same_tests)

odd_test : (a b : ℕ) → eqb (2 * a + 1) (2 * b + 1) ≡ eqb a b
odd_test a b = grind (arith, eq-eqb, eqb-true, same_tests)

odd_even : (a b : ℕ) → eqb (2 * a + 1) (2 * b) ≡ false
odd_even a b = ne_eqb (2 * a + 1) (2 * b) (λ e. omega arith)

even_odd : (a b : ℕ) → eqb (2 * a) (2 * b + 1) ≡ false
even_odd a b = ne_eqb (2 * a) (2 * b + 1) (λ e. omega arith)

even_less : (a b : ℕ) → b < a → eqb (2 * a) (2 * b) ≡ false
even_less a b lt = ne_eqb (2 * a) (2 * b) (λ e. omega arith)

-- what an arc adds that passes a test, or doesn't

one_end : (o : Option ℕ) (test : ℕ → Bool) (b : Bool) (amount : ℕ) → (o ≡ None → amount ≡ 0) → ((x : ℕ) → test x ≡ b)
    → worth o (λ x. cond (test x) amount 0) ≡ cond b amount 0
one_end None test b amount none same = sym (ap (λ n. cond b n 0) (none refl) ∙ cond_none b)
one_end (Some x) test b amount none same = ap (λ t. cond t amount 0) (same x)

-- where the test is for the parent
parent_end : (o : Option ℕ) (test : ℕ → Bool) (j amount : ℕ) → ((x : ℕ) → test x ≡ eqb x j)
    → worth o (λ x. cond (test x) amount 0) ≡ cond (is_at j o) amount 0
parent_end None test j amount same = refl
parent_end (Some x) test j amount same = ap (λ t. cond t amount 0) (same x)

-- The needs by place.

need_at : (tree : Rows) (rows : List SpanRow) (k : ℕ) (row : SpanRow) → slice_get rows k ≡ Some row
    → slice_get (weights_of tree rows) k ≡ Some (weight_of tree row.node)
need_at tree rows k row h = get_map (λ (r : SpanRow). weight_of tree r.node) rows k row h

pub need_lock : (tree : Rows) (rows : List SpanRow) (k : ℕ) (row : SpanRow) → slice_get rows k ≡ Some row
    → place (needs_of tree rows) (2 * k) ≡ neg_ℤ (pos (weight_of tree row.node))
need_lock tree rows k row h =
    pairs_lock (λ weight. neg_ℤ (pos weight)) (λ weight. pos weight) (weights_of tree rows) k (weight_of tree row.node) (need_at tree rows k row h)

pub need_release : (tree : Rows) (rows : List SpanRow) (k : ℕ) (row : SpanRow) → slice_get rows k ≡ Some row
    → place (needs_of tree rows) (2 * k + 1) ≡ pos (weight_of tree row.node)
need_release tree rows k row h =
    pairs_release (λ weight. neg_ℤ (pos weight)) (λ weight. pos weight) (weights_of tree rows) k (weight_of tree row.node) (need_at tree rows k row h)

pub needs_size : (tree : Rows) (rows : List SpanRow) → length (needs_of tree rows) ≡ 2 * length rows + 1
needs_size tree rows = grind (arith, map_length, pairs_size)

lock_meets : (i o w : ℕ) (z : ℤ) → z ≡ neg_ℤ (pos w) → pos i ≡ pos o +ℤ z → i + w ≡ o
lock_meets i o w z e h = omega (arith, ints)

release_meets : (i o w : ℕ) (z : ℤ) → z ≡ pos w → pos i ≡ pos o +ℤ z → o ≡ 0 → i ≡ w
release_meets i o w z e h zero_out = omega (arith, ints)

module _ (tree : Rows) (nodes lengths : List ℕ) (rows : List SpanRow) (is_span : IsSpan tree nodes lengths rows) where
  -- a row's parent is at a place exactly where it is the node there
  pub parent_at : (j : ℕ) (over : SpanRow) → slice_get rows j ≡ Some over → (i : ℕ) (row : SpanRow)
      → slice_get rows i ≡ Some row → is_at j row.parent ≡ is_at over.node (parent_of tree row.node)
  parent_at j over g i row h = same_tests (is_at j row.parent) (is_at over.node (parent_of tree row.node))
      (λ e.
      let k = parent_known tree nodes lengths rows is_span i j row h (is_at_true j row.parent e) in
      grind (arith, is_at_from, same_Some))
      (λ e.
      let p = parent_found tree nodes lengths rows is_span i over.node row h
      (is_at_true over.node (parent_of tree row.node) e) (row_spanned tree nodes lengths rows is_span j over g) in
      let P : List ℕ → Type 0 = λ xs. slice_get xs j ≡ Some over.node in
      let Q : List ℕ → Type 0 = λ xs. slice_get xs p.0 ≡ Some over.node in
      let one : p.0 ≡ j = passing_once (length tree) (is_forced tree nodes) p.0 j over.node
      (subst Q is_span.named (get_map node_of_row rows p.0 p.1 p.3 ∙ ap (λ (v : ℕ). Some v) p.4))
      (subst P is_span.named (get_map node_of_row rows j over g)) in
      is_at_from j row.parent (p.2 ∙ ap (λ (v : ℕ). Some v) one))

  -- a row is the one at a place exactly where it has the node there
  same_row : (j i : ℕ) (over row : SpanRow) → slice_get rows j ≡ Some over → slice_get rows i ≡ Some row
      → eqb i j ≡ eqb row.node over.node
  same_row j i over row g h = same_tests (eqb i j) (eqb row.node over.node)
      (λ e. eq-eqb row.node over.node (ap node_of_row (same_Some row over
      (sym h ∙ (ap (slice_get rows) (eqb-true i j e) ∙ g)))))
      (λ e.
      let P : List ℕ → Type 0 = λ xs. slice_get xs j ≡ Some over.node in
      let Q : List ℕ → Type 0 = λ xs. slice_get xs i ≡ Some over.node in
      eq-eqb i j (passing_once (length tree) (is_forced tree nodes) i j over.node
      (subst Q is_span.named (get_map node_of_row rows i row h ∙ ap (λ (v : ℕ). Some v) (eqb-true row.node over.node e)))
      (subst P is_span.named (get_map node_of_row rows j over g))))

  -- The balances.

  module _ (amounts : List ℕ) (flow : List FlowRow) (places : List ℤ) (read : IsRead rows amounts flow)
      (solution : IsSolution (needs_of tree rows) (arcs_from (2 * length rows) 0 rows) amounts places)
      (j : ℕ) (over : SpanRow) (f : FlowRow) (there : slice_get rows j ≡ Some over)
      (beside : slice_get flow j ≡ Some f) (same : f.node ≡ over.node) where
    abbrev arcs : List Arc
    arcs = arcs_from (2 * length rows) 0 rows

    lt : j < length rows
    lt = slice_get_within rows j over there

    -- the amount of this row alone, and those of its children
    abbrev here : (FlowRow → ℕ) → FlowRow → ℕ
    here amount row = cond (eqb row.node f.node) (amount row) 0

    abbrev below : (FlowRow → ℕ) → FlowRow → ℕ
    below amount row = cond (is_child tree row f) (amount row) 0

    here_is : (amount : FlowRow → ℕ) → sum_by (here amount) flow ≡ amount f
    here_is amount =
        sums_one (here amount) flow j f beside (λ i g at apart.
        let r = some_right IsReadRow rows flow i g read.each at in
        ap (λ t. cond t (amount g) 0) (ap₂ (λ a b. eqb a b) (r.2).node same
        ∙ (sym (same_row j i over r.0 there r.1) ∙ ne_eqb i j apart)))
        ∙ ap (λ t. cond t (amount f) 0) (eq-eqb f.node f.node refl)

    is_here : (i : ℕ) (row : SpanRow) (g : FlowRow) → slice_get rows i ≡ Some row → IsReadRow row g
        → eqb i j ≡ eqb g.node f.node
    is_here i row g at is = same_row j i over row there at ∙ ap₂ (λ a b. eqb a b) (sym is.node) (sym same)

    is_below : (i : ℕ) (row : SpanRow) (g : FlowRow) → slice_get rows i ≡ Some row → IsReadRow row g
        → is_at j row.parent ≡ is_child tree g f
    is_below i row g at is = parent_at j over there i row at ∙ ap₂ (λ a b. is_at a (parent_of tree b)) (sym same) (sym is.node)

    in_lock : amount_in arcs amounts (2 * j) ≡ f.above
    in_lock =
        sent_rows (2 * length rows) rows amounts flow read (λ a. eqb a.to (2 * j)) (here (λ g. g.above)) (λ i row g at at2 is.
        let b = is_here i row g at is in
        row_sum row (λ kind x. (arc_to (2 * length rows) i kind x, amount_of kind g)) (λ (l : Link). cond (eqb (l.0).to (2 * j)) l.1 0)
        (here (λ h. h.above) g) 0 0 0 0
        (one_end row.parent (λ x. eqb (2 * i) (2 * j)) (eqb g.node f.node) g.above (is.none Above) (λ x. even_test i j ∙ b))
        (one_end row.parent (λ x. eqb (2 * x + 1) (2 * j)) false g.held (is.none Held) (λ x. odd_even x j))
        (one_end row.from (λ x. eqb (2 * length rows) (2 * j)) false g.first (is.none First) (λ x. even_less (length rows) j lt))
        (one_end row.until (λ x. eqb (2 * i + 1) (2 * j)) false g.last (is.none Last) (λ x. odd_even i j))
        (one_end (Some 0) (λ x. eqb (2 * i + 1) (2 * j)) false g.own (is.none Own) (λ x. odd_even i j)) ∙ (omega arith))
        ∙ here_is (λ g. g.above)

    out_lock : amount_out arcs amounts (2 * j) ≡ child_sum tree (λ g. g.above) flow f + f.held + f.first + f.own
    out_lock =
        sent_rows (2 * length rows) rows amounts flow read (λ a. eqb a.from (2 * j))
        (λ g. below (λ h. h.above) g + here (λ h. h.held) g + here (λ h. h.first) g + here (λ h. h.own) g) (λ i row g at at2 is.
        let b = is_here i row g at is in
        row_sum row (λ kind x. (arc_to (2 * length rows) i kind x, amount_of kind g)) (λ (l : Link). cond (eqb (l.0).from (2 * j)) l.1 0)
        (below (λ h. h.above) g) (here (λ h. h.held) g) (here (λ h. h.first) g) 0 (here (λ h. h.own) g)
        (parent_end row.parent (λ x. eqb (2 * x) (2 * j)) j g.above (λ x. even_test x j)
        ∙ ap (λ t. cond t g.above 0) (is_below i row g at is))
        (one_end row.parent (λ x. eqb (2 * i) (2 * j)) (eqb g.node f.node) g.held (is.none Held) (λ x. even_test i j ∙ b))
        (one_end row.from (λ x. eqb (2 * i) (2 * j)) (eqb g.node f.node) g.first (is.none First) (λ x. even_test i j ∙ b))
        (one_end row.until (λ x. eqb (2 * length rows) (2 * j)) false g.last (is.none Last) (λ x. even_less (length rows) j lt))
        (one_end (Some 0) (λ x. eqb (2 * i) (2 * j)) (eqb g.node f.node) g.own (is.none Own) (λ x. even_test i j ∙ b))
        ∙ (omega arith))
        ∙ (sums_add (λ g. below (λ h. h.above) g + here (λ h. h.held) g + here (λ h. h.first) g) (here (λ h. h.own)) flow
        ∙ ap₂ (λ a b. a + b) (sums_add (λ g. below (λ h. h.above) g + here (λ h. h.held) g) (here (λ h. h.first)) flow
        ∙ ap₂ (λ a b. a + b) (sums_add (below (λ h. h.above)) (here (λ h. h.held)) flow
        ∙ ap (λ b. child_sum tree (λ g. g.above) flow f + b) (here_is (λ h. h.held))) (here_is (λ h. h.first))) (here_is (λ h. h.own)))

    in_release : amount_in arcs amounts (2 * j + 1) ≡ child_sum tree (λ g. g.held) flow f + f.last + f.own
    in_release =
        sent_rows (2 * length rows) rows amounts flow read (λ a. eqb a.to (2 * j + 1))
        (λ g. below (λ h. h.held) g + here (λ h. h.last) g + here (λ h. h.own) g) (λ i row g at at2 is.
        let b = is_here i row g at is in
        row_sum row (λ kind x. (arc_to (2 * length rows) i kind x, amount_of kind g)) (λ (l : Link). cond (eqb (l.0).to (2 * j + 1)) l.1 0)
        0 (below (λ h. h.held) g) 0 (here (λ h. h.last) g) (here (λ h. h.own) g)
        (one_end row.parent (λ x. eqb (2 * i) (2 * j + 1)) false g.above (is.none Above) (λ x. even_odd i j))
        (parent_end row.parent (λ x. eqb (2 * x + 1) (2 * j + 1)) j g.held (λ x. odd_test x j)
        ∙ ap (λ t. cond t g.held 0) (is_below i row g at is))
        (one_end row.from (λ x. eqb (2 * length rows) (2 * j + 1)) false g.first (is.none First) (λ x. even_odd (length rows) j))
        (one_end row.until (λ x. eqb (2 * i + 1) (2 * j + 1)) (eqb g.node f.node) g.last (is.none Last) (λ x. odd_test i j ∙ b))
        (one_end (Some 0) (λ x. eqb (2 * i + 1) (2 * j + 1)) (eqb g.node f.node) g.own (is.none Own) (λ x. odd_test i j ∙ b))
        ∙ (omega arith)) ∙ (sums_add (λ g. below (λ h. h.held) g + here (λ h. h.last) g) (here (λ h. h.own)) flow
        ∙ ap₂ (λ a b. a + b) (sums_add (below (λ h. h.held)) (here (λ h. h.last)) flow
        ∙ ap (λ b. child_sum tree (λ g. g.held) flow f + b) (here_is (λ h. h.last))) (here_is (λ h. h.own)))

    out_release : amount_out arcs amounts (2 * j + 1) ≡ 0
    out_release =
        sent_rows (2 * length rows) rows amounts flow read (λ a. eqb a.from (2 * j + 1)) (λ g. 0) (λ i row g at at2 is.
        row_sum row (λ kind x. (arc_to (2 * length rows) i kind x, amount_of kind g)) (λ (l : Link). cond (eqb (l.0).from (2 * j + 1)) l.1 0)
        0 0 0 0 0 (one_end row.parent (λ x. eqb (2 * x) (2 * j + 1)) false g.above (is.none Above) (λ x. even_odd x j))
        (one_end row.parent (λ x. eqb (2 * i) (2 * j + 1)) false g.held (is.none Held) (λ x. even_odd i j))
        (one_end row.from (λ x. eqb (2 * i) (2 * j + 1)) false g.first (is.none First) (λ x. even_odd i j))
        (one_end row.until (λ x. eqb (2 * length rows) (2 * j + 1)) false g.last (is.none Last) (λ x. even_odd (length rows) j))
        (one_end (Some 0) (λ x. eqb (2 * i) (2 * j + 1)) false g.own (is.none Own) (λ x. even_odd i j)))
        ∙ sums_zero (λ g. 0) flow (λ i g at. refl)

    weight_same : weight_of tree f.node ≡ weight_of tree over.node
    weight_same = ap (λ v. weight_of tree v) same

    pub lock_balanced : is_lock_balanced tree flow f ≡ true
    lock_balanced =
        let size : length (needs_of tree rows) ≡ 2 * length rows + 1 = needs_size tree rows in
        let within : j < length rows = lt in
        let i = in_lock in
        let o = out_lock in
        let w = weight_same in
        let e : amount_in arcs amounts (2 * j) + weight_of tree over.node ≡ amount_out arcs amounts (2 * j) =
        lock_meets (amount_in arcs amounts (2 * j)) (amount_out arcs amounts (2 * j)) (weight_of tree over.node)
        (place (needs_of tree rows) (2 * j)) (need_lock tree rows j over there)
        (solution.balanced (2 * j) (omega arith)) in
        eq-eqb (f.above + weight_of tree f.node)
        (child_sum tree (λ child. child.above) flow f + f.held + f.first + f.own) (omega arith)

    pub release_balanced : is_release_balanced tree flow f ≡ true
    release_balanced =
        grind (arith, eq-eqb, in_release, lt, need_release, needs_size, out_release, release_meets, weight_same)
