-- The stays read from the solved network give the settled plan.
use Rattle.std.proofs.Common.{◌≡◌, ℕ, zero, suc, ◌+◌, ◌-◌, ◌*◌, ◌<◌, ◌≤◌, ◌&&◌, Bool, true, false, not, cond, eqb, List}
use Rattle.std.proofs.Common.{[], ◌∷◌, ◌++◌, map, filter, length, get_or, Option, Some, None, pos, refl, sym, ◌∙◌, ap}
use Rattle.std.proofs.Common.{ap₂, subst, inl, inr, arith, length-append}
use Rattle.std.specs.Prelude.{slice_index, filter_map}
use Rattle.std.specs.List.{slice_get, list_any, sum_by, cons_option}
use Rattle.std.specs.Option.{option_and_then, unwrap_or}
use Rattle.std.proofs.lemmas.Option.{none-some, same_Some, slice_get_within, get_or_from_slice_get}
use Rattle.std.proofs.lemmas.Bool.{and_parts, and_from, or_cases, eqb-true, eq-eqb}
use Rattle.std.proofs.lemmas.List.Sums.{sum_by-cons}
use Rattle.grove_tree.specs.Trees.{Rows, parent_of, weight_of, is_at}
use Rattle.grove_base.proofs.Counting.{any_from, any_true, passing_once, same_tests}
use Rattle.grove_tree.specs.Rules.{IsWithinLimits}
use Rattle.grove_base.proofs.Lists.{get_map, get_map_inv, item_there}
use Rattle.grove_access.specs.Slots.{slots_before}
use Rattle.grove_base.specs.Numbers.{sum_below}
use Rattle.grove_access.proofs.Slots.{slots_rise}
use Rattle.grove_access.specs.Forced.{is_forced, forced_nodes}
use Rattle.grove_plan.specs.declared.step.Step.{Step}
use Rattle.grove_plan.specs.declared.step.Step.TheVariants.{Lock, Unlock, Access}
use Rattle.grove_plan.specs.Plans.{cost}
use Rattle.grove_proof.specs.declared.flow.FlowRow.{FlowRow}
use Rattle.grove_proof.specs.Flows.{IsCertificate}
use Rattle.grove_span.specs.declared.row.SpanRow.{SpanRow}
use Rattle.grove_span.specs.SpanRows.{node_of_row, find_place}
use Rattle.grove_flow.specs.Networks.{place}
use Rattle.grove_build.specs.declared.stays.Stay.{Stay}
use Rattle.grove_build.specs.declared.steps.Group.TheVariants.{Early, Locks, Late}
use Rattle.grove_build.specs.Layout.{has_child_in, is_early, gap_steps, steps_below, laid_out}
use Rattle.grove_build.specs.Settled.{IsSettled}
use Rattle.grove_build.specs.Networks.{IsSpan, IsSolved, IsRead, AreSlots, weights_of}
use Rattle.grove_build.specs.Stays.{has_parent_at, is_needed, is_early_at, stay_of, stays_from, step_in, stay_steps, stay_steps_below, rows_cost, AreWithin}
use Rattle.grove_build.proofs.Runs.{Has}
use Rattle.grove_build.proofs.Laying.{any_has}
use Rattle.grove_build.proofs.Found.{place_found, place_there, row_spanned}
use Rattle.grove_build.proofs.Latest.{latest_fits}
use Rattle.grove_build.proofs.Needs.{parent_at}
use Rattle.grove_build.proofs.Settles.{settles, certifies, costs}

-- a sum over the places of rows is one over the rows
sums_front : (n : ℕ) (f : ℕ → ℕ) → sum_below (suc n) f ≡ f 0 + sum_below n (λ k. f (suc k))
sums_front zero f = refl
sums_front (suc n) f = let rest : sum_below (suc n) f ≡ f 0 + sum_below n (λ k. f (suc k)) = sums_front n f in omega arith

sums_meet : (f : ℕ → ℕ) (g : SpanRow → ℕ) (rows : List SpanRow)
    → ((k : ℕ) (row : SpanRow) → slice_get rows k ≡ Some row → f k ≡ g row) → sum_below (length rows) f ≡ sum_by g rows
sums_meet f g [] same = refl
sums_meet f g (row ∷ rows) same = sums_front (length rows) f
    ∙ (ap₂ (λ a b. a + b) (same 0 row refl) (sums_meet (λ k. f (suc k)) g rows (λ k r h. same (suc k) r h))
    ∙ sym (sum_by-cons g row rows))

-- some element of a list passes
any_had : {A : Type 0} (test : A → Bool) (xs : List A) → list_any test xs ≡ true → (x : A) × Has xs x × (test x ≡ true)
any_had test [] h = absurd (cc)
any_had test (y ∷ xs) h = elim (or_cases (test y) (list_any test xs) h) [
  | inl here ↦ (y, (0, refl), here)
  | inr there ↦ let r = any_had test xs there in (r.0, (suc (r.1).0, (r.1).1), r.2)
]

pick : (b : Bool) (f : ℕ → Step) (v : ℕ) (zs : List ℕ) (rest : List Step) → rest ≡ map f zs
    → cons_option (cond b (Some (f v)) None) rest ≡ map f (cond b (v ∷ zs) zs)
pick true f v zs rest e = ap (λ l. f v ∷ l) e
pick false f v zs rest e = e

-- the steps of a group are those of the nodes that pass a test
group_same : (f : ℕ → Step) (h : Stay → Option Step) (b p : ℕ → Bool) (gaps : List ℕ) (needed : List Bool)
    → ((k : ℕ) (row : SpanRow) → h (stay_of gaps needed k row) ≡ cond (b k) (Some (f row.node)) None)
    → (k : ℕ) (rows : List SpanRow) → ((i : ℕ) (row : SpanRow) → slice_get rows i ≡ Some row → b (k + i) ≡ p row.node)
    → filter_map h (stays_from gaps needed k rows) ≡ map f (filter p (map node_of_row rows))
group_same f h b p gaps needed e k [] same = refl
group_same f h b p gaps needed e k (row ∷ rows) same =
    let rest : filter_map h (stays_from gaps needed (suc k) rows) ≡ map f (filter p (map node_of_row rows)) =
    group_same f h b p gaps needed e (suc k) rows
    (λ i r g. ap b (let s : suc k + i ≡ k + suc i = omega arith in s) ∙ same (suc i) r g) in
    ap (λ o. cons_option o (filter_map h (stays_from gaps needed (suc k) rows))) (e k row)
    ∙ (ap (λ t. cons_option (cond t (Some (f row.node)) None) (filter_map h (stays_from gaps needed (suc k) rows)))
    (ap b (let s : k ≡ k + 0 = omega arith in s) ∙ same 0 row refl)
    ∙ pick (p row.node) f row.node (filter p (map node_of_row rows))
    (filter_map h (stays_from gaps needed (suc k) rows)) rest)

module _ (tree : Rows) (nodes lengths : List ℕ) (rows : List SpanRow) (amounts gaps : List ℕ)
    (is_span : IsSpan tree nodes lengths rows) (solved : IsSolved tree lengths (length nodes) rows amounts gaps) where
  abbrev span : List ℕ
  span = forced_nodes tree nodes

  abbrev pub at : ℕ → ℕ
  at v = unwrap_or (find_place v span) 0

  abbrev pub lock : ℕ → ℕ
  lock v = slice_index gaps (2 * at v)

  abbrev pub release : ℕ → ℕ
  release v = slice_index gaps (2 * at v + 1)

  there : (k : ℕ) (row : SpanRow) → slice_get rows k ≡ Some row → slice_get span k ≡ Some row.node
  there k row g = grind (arith, get_map)

  at_is : (k : ℕ) (row : SpanRow) → slice_get rows k ≡ Some row → at row.node ≡ k
  at_is k row g =
      let t = place_there row.node span k (there k row g) in
      let one : t.0 ≡ k = passing_once (length tree) (is_forced tree nodes) t.0 k row.node
      (place_found row.node span t.0 t.1) (there k row g) in
      ap (λ o. unwrap_or o 0) t.1 ∙ one

  pub lock_is : (k : ℕ) (row : SpanRow) → slice_get rows k ≡ Some row → lock row.node ≡ slice_index gaps (2 * k)
  lock_is k row g = ap (λ n. slice_index gaps (2 * n)) (at_is k row g)

  pub release_is : (k : ℕ) (row : SpanRow) → slice_get rows k ≡ Some row
      → release row.node ≡ slice_index gaps (2 * k + 1)
  release_is k row g = ap (λ n. slice_index gaps (2 * n + 1)) (at_is k row g)

  places_size : length solved.places ≡ 2 * length rows + 1
  places_size = solved.latest.candidate.size

  lock_gap : (k : ℕ) → k < length rows → (slice_index gaps (2 * k) ≤ length nodes)
      × (pos (slots_before lengths (slice_index gaps (2 * k))) ≡ place solved.places (2 * k))
  lock_gap k lt = grind (arith, places_size)

  release_gap : (k : ℕ) → k < length rows → (slice_index gaps (2 * k + 1) ≤ length nodes)
      × (pos (slots_before lengths (slice_index gaps (2 * k + 1))) ≡ place solved.places (2 * k + 1))
  release_gap k lt = grind (arith, places_size)

  pub low : (k : ℕ) (row : SpanRow) → slice_get rows k ≡ Some row
      → (lock row.node ≤ length nodes) × (release row.node ≤ length nodes)
  low k row g =
      let P : ℕ → Type 0 = λ n. n ≤ length nodes in (
        subst P (sym (lock_is k row g)) (lock_gap k (slice_get_within rows k row g)).0,
        subst P (sym (release_is k row g)) (release_gap k (slice_get_within rows k row g)).0,
      )

  pub locks : (k : ℕ) (row : SpanRow) → slice_get rows k ≡ Some row
      → pos (slots_before lengths (lock row.node)) ≡ place solved.places (2 * k)
  locks k row g = ap (λ n. pos (slots_before lengths n)) (lock_is k row g) ∙ (lock_gap k (slice_get_within rows k row g)).1

  pub releases : (k : ℕ) (row : SpanRow) → slice_get rows k ≡ Some row
      → pos (slots_before lengths (release row.node)) ≡ place solved.places (2 * k + 1)
  releases k row g = ap (λ n. pos (slots_before lengths n)) (release_is k row g) ∙ (release_gap k (slice_get_within rows k row g)).1

  -- a child that is locked in the gap of its parent's unlock
  child_same : (k : ℕ) (row : SpanRow) → slice_get rows k ≡ Some row
      → has_child_in tree span lock (release row.node) row.node ≡ is_needed rows gaps (length rows) k
  child_same k row g =
      same_tests (has_child_in tree span lock (release row.node) row.node) (is_needed rows gaps (length rows) k)
      (λ h.
      let a = any_had (λ child. is_at row.node (parent_of tree child) && eqb (lock child) (release row.node)) span h in
      let P : List ℕ → Type 0 = λ xs. slice_get xs (a.1).0 ≡ Some a.0 in
      let m = get_map_inv node_of_row rows (a.1).0 a.0 (subst P (sym is_span.named) (a.1).1) in
      let parts = and_parts (is_at row.node (parent_of tree a.0)) (eqb (lock a.0) (release row.node)) a.2 in
      let up_here : is_at k (m.0).parent ≡ true =
      parent_here k row g (a.1).0 m.0 m.1 ∙ (ap (λ v. is_at row.node (parent_of tree v)) m.2 ∙ parts.0) in
      let same : slice_index gaps (2 * (a.1).0) ≡ slice_index gaps (2 * k + 1) =
      sym (lock_is (a.1).0 m.0 m.1)
      ∙ (ap (λ v. lock v) m.2 ∙ (eqb-true (lock a.0) (release row.node) parts.1 ∙ release_is k row g)) in
      any_from (length rows) (λ i. has_parent_at rows k i
      && eqb (slice_index gaps (2 * i)) (slice_index gaps (2 * k + 1))) (a.1).0 (slice_get_within rows (a.1).0 m.0 m.1)
      (and_from (has_parent_at rows k (a.1).0) (eqb (slice_index gaps (2 * (a.1).0)) (slice_index gaps (2 * k + 1)))
      (ap (λ o. is_at k (option_and_then (λ (r : SpanRow). r.parent) o)) m.1 ∙ up_here) (eq-eqb _ _ same)))
      (λ h.
      let a = any_true (length rows) (λ i. has_parent_at rows k i
      && eqb (slice_index gaps (2 * i)) (slice_index gaps (2 * k + 1))) h in
      let r = item_there rows a.0 a.1 in
      let parts = and_parts (has_parent_at rows k a.0)
      (eqb (slice_index gaps (2 * a.0)) (slice_index gaps (2 * k + 1))) a.2 in
      let up_here : is_at k (r.0).parent ≡ true =
      ap (λ o. is_at k (option_and_then (λ (x : SpanRow). x.parent) o)) (sym r.1) ∙ parts.0 in
      let same : lock (r.0).node ≡ release row.node =
      lock_is a.0 r.0 r.1 ∙ (eqb-true (slice_index gaps (2 * a.0)) (slice_index gaps (2 * k + 1)) parts.1
      ∙ sym (release_is k row g)) in
      any_has (λ child. is_at row.node (parent_of tree child) && eqb (lock child) (release row.node)) span (r.0).node
      (a.0, there a.0 r.0 r.1)
      (and_from (is_at row.node (parent_of tree (r.0).node)) (eqb (lock (r.0).node) (release row.node))
      (sym (parent_here k row g a.0 r.0 r.1) ∙ up_here) (eq-eqb _ _ same)))
    where
      parent_here : (j : ℕ) (over : SpanRow) → slice_get rows j ≡ Some over → (i : ℕ) (r : SpanRow)
          → slice_get rows i ≡ Some r → is_at j r.parent ≡ is_at over.node (parent_of tree r.node)
      parent_here = parent_at tree nodes lengths rows is_span

  module _ (needed : List Bool) (marked : (j : ℕ) → j < length rows
      → get_or needed j false ≡ is_needed rows gaps (length rows) j) where
    early_same : (k : ℕ) (row : SpanRow) → slice_get rows k ≡ Some row
        → is_early_at gaps needed k ≡ is_early tree span lock release row.node
    early_same k row g = grind (arith, child_same, lock_is, release_is, slice_get_within)

    zero_plus : (i : ℕ) → 0 + i ≡ i
    zero_plus i = omega arith

    gap_same : (g : ℕ) → stay_steps (stays_from gaps needed 0 rows) g ≡ gap_steps tree span lock release g
    gap_same g =
        ap₂ (λ a b. a ++ b)
        (group_same Unlock (step_in g Early) (λ k. eqb (slice_index gaps (2 * k + 1)) g && is_early_at gaps needed k)
        (λ v. eqb (release v) g && is_early tree span lock release v) gaps needed (λ k row. refl) 0 rows
        (λ i row h. ap (λ n. eqb (slice_index gaps (2 * n + 1)) g && is_early_at gaps needed n) (zero_plus i)
        ∙ ap₂ (λ (n : ℕ) b. eqb n g && b) (sym (release_is i row h)) (early_same i row h))
        ∙ ap (λ l. map Unlock (filter (λ v. eqb (release v) g && is_early tree span lock release v) l)) is_span.named)
        (ap₂ (λ a b. a ++ b)
        (group_same Lock (step_in g Locks) (λ k. eqb (slice_index gaps (2 * k)) g) (λ v. eqb (lock v) g) gaps needed
        (λ k row. refl) 0 rows
        (λ i row h. ap (λ n. eqb (slice_index gaps (2 * n)) g) (zero_plus i)
        ∙ ap (λ (n : ℕ). eqb n g) (sym (lock_is i row h)))
        ∙ ap (λ l. map Lock (filter (λ v. eqb (lock v) g) l)) is_span.named)
        (group_same Unlock (step_in g Late) (λ k. eqb (slice_index gaps (2 * k + 1)) g
        && not (is_early_at gaps needed k)) (λ v. eqb (release v) g && not (is_early tree span lock release v))
        gaps needed (λ k row. refl) 0 rows
        (λ i row h. ap (λ n. eqb (slice_index gaps (2 * n + 1)) g && not (is_early_at gaps needed n)) (zero_plus i)
        ∙ ap₂ (λ (n : ℕ) b. eqb n g && not b) (sym (release_is i row h)) (early_same i row h))
        ∙ ap (λ l. map Unlock (filter (λ v. eqb (release v) g && not (is_early tree span lock release v)) l))
        is_span.named))

    below_same : (m : ℕ) → stay_steps_below (stays_from gaps needed 0 rows) m ≡ steps_below tree span lock release m
    below_same zero = refl
    below_same (suc m) = ap₂ (λ a b. a ++ (b ++ Access m ∷ [])) (below_same m) (gap_same m)

    pub laid_same : (m : ℕ) → stay_steps_below (stays_from gaps needed 0 rows) m
        ++ stay_steps (stays_from gaps needed 0 rows) m ≡ laid_out tree span lock release m
    laid_same m = ap₂ (λ a b. a ++ b) (below_same m) (gap_same m)

  -- the cost, row by row
  pub costs_same : (slots : List ℕ) → AreSlots lengths (length nodes) slots
      → rows_cost (weights_of tree rows) slots gaps (length rows)
      ≡ sum_by (λ row. weight_of tree row.node * (slots_before lengths (release row.node) - slots_before lengths (lock row.node))) rows
  costs_same slots are_slots = sums_meet
      (λ k. slice_index (weights_of tree rows) k
      * (slice_index slots (slice_index gaps (2 * k + 1)) - slice_index slots (slice_index gaps (2 * k))))
      (λ row. weight_of tree row.node * (slots_before lengths (release row.node) - slots_before lengths (lock row.node))) rows
      (λ k row g.
      let lt = slice_get_within rows k row g in
      let heavy : slice_index (weights_of tree rows) k ≡ weight_of tree row.node =
      get_or_from_slice_get (weights_of tree rows) k (weight_of tree row.node) 0 (get_map (λ (r : SpanRow). weight_of tree r.node) rows k row g) in
      grind (arith, lock_gap, lock_is, release_gap, release_is))

pub stays_length : (gaps : List ℕ) (needed : List Bool) (k : ℕ) (rows : List SpanRow)
    → length (stays_from gaps needed k rows) ≡ length rows
stays_length gaps needed k [] = refl
stays_length gaps needed k (row ∷ rows) = ap suc (stays_length gaps needed (suc k) rows)

-- stays whose gaps are no later than one end no later
stays_end : (gaps : List ℕ) (needed : List Bool) (m k : ℕ) (rows : List SpanRow)
    → ((i : ℕ) → i < length rows → (slice_index gaps (2 * (k + i)) ≤ m) × (slice_index gaps (2 * (k + i) + 1) ≤ m))
    → AreWithin m (stays_from gaps needed k rows)
stays_end gaps needed m k [] low i stay h = absurd (none-some stay h)
stays_end gaps needed m k (row ∷ rows) low zero stay h =
    let e : k + 0 ≡ k = omega arith in
    grind (arith, low, same_Some)
stays_end gaps needed m k (row ∷ rows) low (suc i) stay h =
    stays_end gaps needed m (suc k) rows
    (λ j lt. let P : ℕ → Type 0 = λ n. (slice_index gaps (2 * n) ≤ m) × (slice_index gaps (2 * n + 1) ≤ m) in
    let e : k + suc j ≡ suc k + j = omega arith in subst P e (low (suc j) (omega arith))) i stay h

few_kept : (h : Stay → Option Step) (stays : List Stay) → length (filter_map h stays) ≤ length stays
few_kept h [] = omega arith
few_kept h (stay ∷ stays) = kept (h stay) (few_kept h stays)
  where
    kept : (o : Option Step) → length (filter_map h stays) ≤ length stays
        → length (cons_option o (filter_map h stays)) ≤ suc (length stays)
    kept None le = omega arith
    kept (Some x) le = omega arith

gap_few : (stays : List Stay) (g : ℕ) → length stays ≤ 4096 → length (stay_steps stays g) ≤ 12288
gap_few stays g few = grind (arith, few_kept, length-append)

below_few : (stays : List Stay) (m : ℕ) → length stays ≤ 4096 → length (stay_steps_below stays m) ≤ 12289 * m
below_few stays zero few = omega arith
below_few stays (suc m) few =
    let a : length (stay_steps_below stays m) ≤ 12289 * m = below_few stays m few in
    let b : length (stay_steps stays m) ≤ 12288 = gap_few stays m few in
    omega (
      arith,
      length-append (stay_steps_below stays m) (stay_steps stays m ++ Access m ∷ []),
      length-append (stay_steps stays m) (Access m ∷ []),
    )

pub steps_few : (stays : List Stay) (m : ℕ) → length stays ≤ 4096 → m ≤ 64
    → length (stay_steps_below stays m ++ stay_steps stays m) ≤ 1000000
steps_few stays m few short =
    omega (
      arith,
      length-append (stay_steps_below stays m) (stay_steps stays m),
      below_few stays m few,
      gap_few stays m few,
    )

module _ (tree : Rows) (nodes lengths : List ℕ) (rows : List SpanRow) (amounts gaps : List ℕ)
    (is_span : IsSpan tree nodes lengths rows) (solved : IsSolved tree lengths (length nodes) rows amounts gaps)
    (short : length nodes ≤ 64) where
  pub gaps_size : length gaps ≡ 2 * length rows + 1
  gaps_size = solved.are_gaps.size ∙ solved.latest.candidate.size

  pub gaps_within : (slots : List ℕ) → AreSlots lengths (length nodes) slots → (v : ℕ) → v < length gaps
      → slice_index gaps v < length slots
  gaps_within slots are_slots v lt = grind (arith)

  pub stays_within : (needed : List Bool) → AreWithin (length nodes) (stays_from gaps needed 0 rows)
  stays_within needed = stays_end gaps needed (length nodes) 0 rows
      (λ i lt. let P : ℕ → Type 0 = λ n. (slice_index gaps (2 * n) ≤ length nodes) × (slice_index gaps (2 * n + 1) ≤ length nodes) in
      grind (arith, lock_gap, release_gap))

  -- no node is released before it is locked
  pub gaps_fit : (flow : List FlowRow) → IsRead rows amounts flow → (slots : List ℕ) → AreSlots lengths (length nodes) slots → (k : ℕ) → k < length rows
      → slice_index slots (slice_index gaps (2 * k)) ≤ slice_index slots (slice_index gaps (2 * k + 1))
  gaps_fit flow read slots are_slots k lt =
      let r = item_there rows k lt in
      let fits = latest_fits tree nodes lengths rows is_span amounts solved.places solved.latest flow read
      (lock tree nodes lengths rows amounts gaps is_span solved) (release tree nodes lengths rows amounts gaps is_span solved)
      (low tree nodes lengths rows amounts gaps is_span solved) (locks tree nodes lengths rows amounts gaps is_span solved) (releases tree nodes lengths rows amounts gaps is_span solved) in
      let own : lock tree nodes lengths rows amounts gaps is_span solved (r.0).node
      ≤ release tree nodes lengths rows amounts gaps is_span solved (r.0).node =
      fits.own (r.0).node (row_spanned tree nodes lengths rows is_span k r.0 r.1) in
      let a : lock tree nodes lengths rows amounts gaps is_span solved (r.0).node ≡ slice_index gaps (2 * k) =
      lock_is tree nodes lengths rows amounts gaps is_span solved k r.0 r.1 in
      let b : release tree nodes lengths rows amounts gaps is_span solved (r.0).node ≡ slice_index gaps (2 * k + 1) =
      release_is tree nodes lengths rows amounts gaps is_span solved k r.0 r.1 in
      grind (arith, lock_gap, release_gap, slots_rise)

  module _ (limits : IsWithinLimits tree) (flow : List FlowRow) (read : IsRead rows amounts flow) (needed : List Bool)
      (marked : (j : ℕ) → j < length rows → get_or needed j false ≡ is_needed rows gaps (length rows) j) where
    abbrev pub steps : List Step
    steps = stay_steps_below (stays_from gaps needed 0 rows) (length nodes)
        ++ stay_steps (stays_from gaps needed 0 rows) (length nodes)

    laid : steps ≡ laid_out tree (forced_nodes tree nodes) (lock tree nodes lengths rows amounts gaps is_span solved)
        (release tree nodes lengths rows amounts gaps is_span solved) (length nodes)
    laid = laid_same tree nodes lengths rows amounts gaps is_span solved needed marked (length nodes)

    pub steps_settle : IsSettled tree nodes lengths steps
    steps_settle =
        let P : List Step → Type 0 = λ p. IsSettled tree nodes lengths p in
        subst P (sym laid) (settles tree nodes lengths rows amounts flow is_span limits read solved.solved solved.solution solved.places
        solved.latest
        (lock tree nodes lengths rows amounts gaps is_span solved) (release tree nodes lengths rows amounts gaps is_span solved)
        (low tree nodes lengths rows amounts gaps is_span solved) (locks tree nodes lengths rows amounts gaps is_span solved) (releases tree nodes lengths rows amounts gaps is_span solved))

    pub steps_certified : IsCertificate tree nodes lengths flow (cost tree lengths steps)
    steps_certified =
        let P : List Step → Type 0 = λ p. IsCertificate tree nodes lengths flow (cost tree lengths p) in
        subst P (sym laid) (certifies tree nodes lengths rows amounts flow is_span limits read solved.solved solved.solution
        solved.places solved.latest
        (lock tree nodes lengths rows amounts gaps is_span solved) (release tree nodes lengths rows amounts gaps is_span solved)
        (low tree nodes lengths rows amounts gaps is_span solved) (locks tree nodes lengths rows amounts gaps is_span solved) (releases tree nodes lengths rows amounts gaps is_span solved))

    pub steps_cost : (slots : List ℕ) → AreSlots lengths (length nodes) slots
        → rows_cost (weights_of tree rows) slots gaps (length rows) ≡ cost tree lengths steps
    steps_cost slots are_slots =
        costs_same tree nodes lengths rows amounts gaps is_span solved slots are_slots
        ∙ (sym (costs tree nodes lengths rows amounts flow is_span limits read solved.solved solved.solution solved.places solved.latest
        (lock tree nodes lengths rows amounts gaps is_span solved) (release tree nodes lengths rows amounts gaps is_span solved)
        (low tree nodes lengths rows amounts gaps is_span solved) (locks tree nodes lengths rows amounts gaps is_span solved) (releases tree nodes lengths rows amounts gaps is_span solved))
        ∙ ap (λ p. cost tree lengths p) (sym laid))
