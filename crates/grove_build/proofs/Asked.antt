-- What the solver asks of the network of a span, and of the places that it begins from.
use Rattle.std.proofs.Common.{◌≡◌, ℕ, zero, suc, ◌+◌, ◌-◌, ◌*◌, ◌<◌, ◌≤◌, List, [], ◌∷◌, map, length, Some, ℤ, pos}
use Rattle.std.proofs.Common.{negsuc, neg_ℤ, refl, sym, ◌∙◌, ap, subst, arith}
use Rattle.std.specs.Prelude.{slice_index}
use Rattle.std.specs.List.{slice_get}
use Rattle.std.proofs.lemmas.Int.{ints}
use Rattle.std.proofs.lemmas.Bool.{cases_lt}
use Rattle.std.proofs.lemmas.List.{get_or_past}
use Rattle.std.proofs.lemmas.Option.{same_Some, slice_get_within, get_or_from_slice_get}
use Rattle.grove_tree.specs.Trees.{Rows, weight_of}
use Rattle.grove_tree.specs.Rules.{IsWithinLimits}
use Rattle.grove_base.proofs.Lists.{get_map_inv, map_length, item_there}
use Rattle.grove_access.specs.ListFaults.{AreLengths}
use Rattle.grove_access.specs.declared.access.Access.{Access}
use Rattle.grove_access.specs.Lists.{nodes_of}
use Rattle.grove_access.specs.Slots.{slots_before}
use Rattle.grove_access.proofs.Slots.{slots_few, slots_rise}
use Rattle.grove_access.proofs.ForcedByTree.{forced_within}
use Rattle.grove_proof.specs.declared.flow.FlowRow.{FlowRow}
use Rattle.grove_span.specs.declared.row.SpanRow.{SpanRow}
use Rattle.grove_flow.specs.Networks.{no_arc, place, IsModest, IsArcOf, HasOwnArcs, IsNetwork, IsStart, IsLatest}
use Rattle.grove_flow.specs.Networks.{IsCandidate, AreArcsOf}
use Rattle.grove_flow.specs.Flows.{IsSolution}
use Rattle.grove_build.specs.declared.kinds.Kind.{Kind}
use Rattle.grove_build.specs.declared.kinds.Kind.TheVariants.{Above, Held, First, Last, Own}
use Rattle.grove_build.specs.Networks.{bound, arc_to, arcs_from, amounts_of, needs_of, start_of, lowered, AreBounded, AreRowsOf, IsSpan, weights_of, AreSlots, AreRising, IsBetween, IsGap, AreGaps}
use Rattle.grove_build.proofs.Runs.{Has}
use Rattle.grove_build.proofs.Fitting.{Fits, AreTight}
use Rattle.grove_build.proofs.Pairs.{pairs_base, pairs_each}
use Rattle.grove_build.proofs.Links.{arcs_each, arcs_have, nothing_sent, nothing_read}
use Rattle.grove_build.proofs.Found.{row_spanned, parent_known}
use Rattle.grove_build.proofs.Cut.{lowered_rises, lowered_keeps, lowered_most}
use Rattle.grove_build.proofs.Candidates.{row_on, on_low, cut_candidate, other_candidate}
use Rattle.grove_build.proofs.Latest.{latest_on}
use Rattle.grove_build.proofs.Needs.{need_lock, need_release, needs_size}
use Rattle.grove_build.proofs.Settles.{rows_few}
use Rattle.grove_access.proofs.Lists.{nodes_length}

modest_pos : (l : ℕ) → l ≤ 64000 → IsModest (pos l)
modest_pos l le = (omega (arith, ints), omega (arith, ints))

modest_neg : (f : ℕ) → f ≤ 64000 → IsModest (neg_ℤ (pos f))
modest_neg f le = (omega (arith, ints), omega (arith, ints))

-- an arc of a row is between variables of the network
arc_within : (n k : ℕ) (row : SpanRow) (kind : Kind) (x : ℕ) → k < n → ((j : ℕ) → row.parent ≡ Some j → j < n) → x ≤ 64000
    → bound row kind ≡ Some x → IsArcOf (2 * n + 1) (arc_to (2 * n) k kind x)
arc_within n k row Above x lt own few e = grind (arith, modest_pos)
arc_within n k row Held x lt own few e = grind (arith, modest_pos)
arc_within n k row First x lt own few e = record { from = omega arith; to = omega arith; modest = modest_neg x few }
arc_within n k row Last x lt own few e = record { from = omega arith; to = omega arith; modest = modest_pos x few }
arc_within n k row Own x lt own few e = record { from = omega arith; to = omega arith; modest = modest_pos 0 (omega arith) }

own_arcs : (base : ℕ) (rows : List SpanRow) → HasOwnArcs (length rows) (arcs_from base 0 rows)
own_arcs base rows k lt =
    let r = item_there rows k lt in
    let h : Has (arcs_from base 0 rows) (arc_to base k Own 0) = arcs_have base k rows r.0 Own 0 r.1 refl in
    grind (arith, get_or_from_slice_get, slice_get_within)

need_base : (tree : Rows) (rows : List SpanRow) → place (needs_of tree rows) (2 * length rows) ≡ pos 0
need_base tree rows = grind (arith, map_length, pairs_base)

weight_parts : (w : ℕ) (z y : ℤ) → 1 ≤ w → w ≤ 1000 → z ≡ neg_ℤ (pos w) → y ≡ pos w → (v : ℕ) × (v < 1000)
    × (z ≡ negsuc v) × (y ≡ pos (v + 1))
weight_parts zero z y low high e f = absurd (omega arith)
weight_parts (suc w) z y low high e f = grind (arith)

module _ (tree : Rows) (nodes lengths : List ℕ) (rows : List SpanRow) (is_span : IsSpan tree nodes lengths rows)
    (limits : IsWithinLimits tree) (short : length nodes ≤ 64) where
  abbrev m : ℕ
  m = length nodes

  abbrev top : ℕ
  top = slots_before lengths m

  top_few : top ≤ 64000
  top_few = let few : slots_before lengths m ≤ 1000 * m = slots_few lengths m is_span.are_lengths in omega arith

  few : length rows ≤ length tree
  few = rows_few tree nodes lengths rows is_span

  pub rows_of_span : AreRowsOf tree rows
  rows_of_span = record {
    few = let a : length rows ≤ length tree = few in let b : length tree ≤ 4096 = limits.few in omega arith;
    nodes = λ i row h. forced_within tree nodes row.node is_span.is_tree is_span.are_nodes
        (row_spanned tree nodes lengths rows is_span i row h);
    parents = own_parents;
    bounds = bounds;
  }
    where
      own_parents : (i j : ℕ) (row : SpanRow) → slice_get rows i ≡ Some row → row.parent ≡ Some j → j < length rows
      own_parents i j row h e =
          let p = parent_known tree nodes lengths rows is_span i j row h e in slice_get_within rows j p.0 p.1

      parent_few : (i j : ℕ) (row : SpanRow) → slice_get rows i ≡ Some row → row.parent ≡ Some j → j ≤ 64000
      parent_few i j row h e = omega (arith, own_parents i j row h e, few, limits.few)

      slots_low : (x : ℕ) → ((i : ℕ) × (i ≤ m) × (slots_before lengths i ≡ x)) → x ≤ 64000
      slots_low x on =
          let a : x ≤ top = on_low tree nodes lengths rows is_span x on in let b : top ≤ 64000 = top_few in omega arith

      bounds : AreBounded rows
      bounds i row h Above x e = parent_few i x row h e
      bounds i row h Held x e = parent_few i x row h e
      bounds i row h First x e = slots_low x ((row_on tree nodes lengths rows is_span i row h).first x e)
      bounds i row h Last x e = slots_low x ((row_on tree nodes lengths rows is_span i row h).last x e)
      bounds i row h Own x e = let none : 0 ≡ x = same_Some 0 x e in omega arith

  pub is_network : IsNetwork (needs_of tree rows) (arcs_from (2 * length rows) 0 rows)
  is_network = record {
    rows = length rows;
    size = needs_size tree rows;
    weights = λ k lt.
        let r = item_there rows k lt in
        weight_parts (weight_of tree (r.0).node) (place (needs_of tree rows) (2 * k))
        (place (needs_of tree rows) (2 * k + 1))
        (limits.weighty (r.0).node (rows_of_span.nodes k r.0 r.1)) (limits.light (r.0).node)
        (need_lock tree rows k r.0 r.1) (need_release tree rows k r.0 r.1);
    base = need_base tree rows;
    arcs_of =
        let P : ℕ → Type 0 = λ n. AreArcsOf (arcs_from (2 * length rows) 0 rows) n in
        subst P (sym (needs_size tree rows))
        (λ i lt. arcs_each (IsArcOf (2 * length rows + 1)) (2 * length rows) rows (λ k row kind x g b.
        arc_within (length rows) k row kind x (slice_get_within rows k row g) (λ j e. rows_of_span.parents k j row g e)
        (rows_of_span.bounds k row g kind x b) b) i no_arc lt);
    own = own_arcs (2 * length rows) rows;
  }

  start_fits : Fits tree nodes (λ v. 0) (λ v. length nodes)
  start_fits = grind (arith, slice_get_within)

  -- a flow that sends nothing is tight anywhere
  nothing_at : (i : ℕ) (f : FlowRow) → slice_get (map nothing_sent rows) i ≡ Some f → (row : SpanRow) × (nothing_sent row ≡ f)
  nothing_at i f h = let r = get_map_inv nothing_sent rows i f h in (r.0, r.2)

  start_tight : AreTight tree nodes (map nothing_sent rows) (λ v. 0) (λ v. length nodes)
  start_tight = grind (arith, nothing_at)

  pub is_start : IsStart (needs_of tree rows) (arcs_from (2 * length rows) 0 rows) (start_of (slots_before lengths (length nodes)) rows)
  is_start =
      let c : IsCandidate (2 * length rows + 1) (arcs_from (2 * length rows) 0 rows) (amounts_of rows (map nothing_sent rows)) (pos top)
      (start_of top rows) =
      other_candidate tree nodes lengths rows is_span (amounts_of rows (map nothing_sent rows)) (map nothing_sent rows)
      (record { each = nothing_read rows; whole = refl }) (λ v. 0) (λ v. length nodes) start_fits start_tight in
      record {
        size = c.size ∙ sym (needs_size tree rows);
        met = λ i lt. (c.lawful i lt).met;
        modest = λ v lt. pairs_each (λ row. pos 0) (λ row. pos top) IsModest (modest_pos 0 (omega arith)) rows
            (λ k row g. (modest_pos 0 (omega arith), modest_pos top top_few)) v;
      }

  pub lowered_candidate : (amounts : List ℕ) (solved : List ℤ)
      → IsSolution (needs_of tree rows) (arcs_from (2 * length rows) 0 rows) amounts solved
      → IsCandidate (length (needs_of tree rows)) (arcs_from (2 * length rows) 0 rows) amounts (pos (slots_before lengths (length nodes)))
      (map (lowered (pos (slots_before lengths (length nodes)))) solved)
  lowered_candidate amounts solved solution =
      let P : ℕ → Type 0 = λ n. IsCandidate n (arcs_from (2 * length rows) 0 rows) amounts (pos top)
      (map (lowered (pos top)) solved) in
      let size : length (needs_of tree rows) ≡ 2 * length rows + 1 = needs_size tree rows in
      let e : length (needs_of tree rows) - 1 ≡ 2 * length rows = omega arith in
      subst P (sym size) (cut_candidate tree nodes lengths rows is_span amounts (lowered (pos top))
      (lowered_rises top) (λ a on. lowered_keeps top a (on_low tree nodes lengths rows is_span a on)) solved
      (solution.places_size ∙ size) solution.lawful (ap (λ v. place solved v) (sym e) ∙ solution.base)
      (λ v lt. lowered_most top (place solved v)))

  -- each latest place is in a gap
  pub latest_between : (slots amounts : List ℕ) (places : List ℤ) → AreSlots lengths (length nodes) slots
      → IsLatest (2 * length rows + 1) (arcs_from (2 * length rows) 0 rows) amounts (pos (slots_before lengths (length nodes))) places
      → (v : ℕ) → IsBetween slots (place places v)
  latest_between slots amounts places are_slots latest v =
      let on = latest_on tree nodes lengths rows is_span amounts places latest v in
      grind (arith)

-- the slots before the gaps rise
pub slots_rising : (lengths slots : List ℕ) (m : ℕ) → AreSlots lengths m slots → AreRising slots
slots_rising lengths slots m are i j le lt = grind (arith, slots_rise)

-- no gap has more slots before it than 64 accesses can take
pub slots_few_each : (lengths slots : List ℕ) (m : ℕ) → AreLengths lengths → AreSlots lengths m slots → m ≤ 64 → (gap : ℕ)
    → slice_index slots gap ≤ 64000
slots_few_each lengths slots m are_lengths are short gap = grind (arith, cases_lt, get_or_past, slots_few)

-- no weight is above 1000
pub weights_few : (tree : Rows) (rows : List SpanRow) → IsWithinLimits tree → (k : ℕ) → slice_index (weights_of tree rows) k ≤ 1000
weights_few tree [] limits k = omega arith
weights_few tree (row ∷ rows) limits zero = limits.light row.node
weights_few tree (row ∷ rows) limits (suc k) = weights_few tree rows limits k

-- the last are those before the end
pub end_slots : (lengths slots : List ℕ) (m : ℕ) → AreSlots lengths m slots → slice_index slots (length slots - 1) ≡ slots_before lengths m
end_slots lengths slots m are = grind (arith)

-- gaps found among the slots
pub gaps_are : (lengths slots gaps : List ℕ) (m : ℕ) (places : List ℤ) → AreSlots lengths m slots → length gaps ≡ length places
    → ((v : ℕ) → v < length places → IsGap slots (place places v) (slice_index gaps v)) → AreGaps lengths m places gaps
gaps_are lengths slots gaps m places are size each = record {
  size = size;
  within = λ v lt. within v lt;
  at = λ v lt. ap (λ (n : ℕ). pos n) (sym (are.each (slice_index gaps v) (within v lt))) ∙ (each v lt).at;
}
  where
    within : (v : ℕ) → v < length places → slice_index gaps v ≤ m
    within v lt = let long : length slots ≡ suc m = are.size in let in_slots : slice_index gaps v < length slots = (each v lt).within in omega arith

-- so they are few
pub nodes_few : (list : List Access) → length list ≤ 64 → length (nodes_of list) ≤ 64
nodes_few list few = let size : length (nodes_of list) ≡ length list = nodes_length list in omega arith
