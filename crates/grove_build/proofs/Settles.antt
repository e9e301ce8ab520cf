-- What the solver and the latest places give for the network of a list's nodes: the settled plan, its certificate and
-- its cost.
use Rattle.std.proofs.Common.{◌≡◌, ℕ, zero, suc, ◌+◌, ◌-◌, ◌*◌, ◌≤◌, ◌^◌, ◌&&◌, Bool, true, false, cond, eqb, leb, List}
use Rattle.std.proofs.Common.{[], ◌∷◌, map, length, Some, None, ℤ, pos, neg_ℤ, refl, sym, ◌∙◌, ap, ap₂, subst, inl, inr}
use Rattle.std.proofs.Common.{arith, eq-eqb, le-leb, le_trans, lit≤, mul-zero}
use Rattle.std.specs.Prelude.{slice_index}
use Rattle.std.specs.List.{slice_get, sum_by, AllZip}
use Rattle.std.proofs.lemmas.Int.{ints}
use Rattle.std.proofs.lemmas.Option.{slice_get_within, get_or_from_slice_get}
use Rattle.std.proofs.lemmas.Bool.{cases_Bool, and_from, or_left, or_right, cond-false}
use borrow.Author.Differences.{up}
use Rattle.grove_tree.specs.Trees.{Rows, parent_of, weight_of}
use Rattle.grove_tree.specs.Rules.{IsWithinLimits}
use Rattle.grove_base.specs.Numbers.{sum_below}
use Rattle.grove_base.proofs.Counting.{any_from, sum_same, passing_few}
use Rattle.grove_base.proofs.Lists.{get_map, get_map_inv, map_length, there_or_none}
use Rattle.grove_tree.proofs.Tests.{is_at_from}
use Rattle.grove_access.specs.Slots.{slots_before}
use Rattle.grove_access.specs.Forced.{IsForcedByTree, is_forced, forced_nodes, is_accessed, first_access, last_end}
use Rattle.grove_plan.specs.declared.step.Step.{Step}
use Rattle.grove_plan.specs.Plans.{holding, cost}
use Rattle.grove_plan.specs.Slots.{first_lock_slot, first_release_slot}
use Rattle.grove_proof.specs.declared.flow.FlowRow.{FlowRow}
use Rattle.grove_proof.specs.Five.{MeetsFive}
use Rattle.grove_proof.specs.Flows.{node_of, is_parent_at, has_parent, is_sign_ok, is_small, AllRows, Balances, IsCertificate}
use Rattle.grove_proof.proofs.Sums.{sums_same, sums_map, sums_passing}
use Rattle.grove_proof.proofs.ForcedList.{forced_list_is_by_tree}
use Rattle.grove_proof.proofs.FiveConstraints.{meets_five}
use Rattle.grove_proof.proofs.Slackness.{unforced_free}
use Rattle.grove_span.specs.declared.row.SpanRow.{SpanRow}
use Rattle.grove_span.specs.SpanRows.{node_of_row}
use Rattle.grove_flow.specs.Networks.{place, IsLatest}
use Rattle.grove_flow.specs.Flows.{takes, IsSolution}
use Rattle.grove_build.specs.Layout.{laid_out}
use Rattle.grove_build.specs.Settled.{IsSettled}
use Rattle.grove_build.specs.declared.kinds.Kind.{Kind}
use Rattle.grove_build.specs.declared.kinds.Kind.TheVariants.{Above, Held, First, Last, Own}
use Rattle.grove_build.specs.Networks.{IsSpan, IsReadRow, IsRead, bound, arc_to, amount_of, arcs_from, needs_of, weights_of}
use Rattle.grove_build.proofs.Fitting.{ArePlaces}
use Rattle.grove_build.proofs.Batched.{some_left, some_right}
use Rattle.grove_build.proofs.Pairs.{pairs_each}
use Rattle.grove_build.proofs.Links.{Link, links_from, links_have, links_amounts}
use Rattle.grove_build.proofs.Found.{parent_known, row_spanned}
use Rattle.grove_build.proofs.Latest.{latest_are_places}
use Rattle.grove_build.proofs.Needs.{needs_size, lock_balanced, release_balanced}
use Rattle.grove_build.proofs.Settling as Settling

-- sizes

sum_few : (n : ℕ) (f : ℕ → ℕ) → ((k : ℕ) → f k ≤ 1000) → sum_below n f ≤ n * 1000
sum_few zero f h = omega arith
sum_few (suc n) f h = let a : sum_below n f ≤ n * 1000 = sum_few n f h in let b : f n ≤ 1000 = h n in omega arith

up_neg : (w : ℕ) → up (neg_ℤ (pos w)) ≤ 1000
up_neg w = omega (arith, ints)

up_pos : (w : ℕ) → w ≤ 1000 → up (pos w) ≤ 1000
up_pos w h = omega (arith, ints)

takes_few : (tree : Rows) (rows : List SpanRow) → ((v : ℕ) → weight_of tree v ≤ 1000) → (v : ℕ)
    → takes (needs_of tree rows) v ≤ 1000
takes_few tree rows light v =
    pairs_each (λ weight. neg_ℤ (pos weight)) (λ weight. pos weight) (λ z. up z ≤ 1000) (up_pos 0 (omega arith)) (weights_of tree rows)
    (λ k weight h.
    grind (arith, get_map_inv, up_neg, up_pos)) v

small_enough : (a : ℕ) → a ≤ 8193000 → leb a (2 ^ 40) ≡ true
small_enough a h = let le : 8193000 ≤ 2 ^ 40 = lit≤ tt in le-leb a (2 ^ 40) (le_trans h le)

part_all : (b : Bool) (w x : ℕ) → (b ≡ false → x ≡ 0) → w * x ≡ cond b (w * x) 0
part_all true w x h = refl
part_all false w x h = ap (λ n. w * n) (h refl) ∙ mul-zero w

difference : (a b c : ℕ) → a + b ≡ c → b ≡ c - a
difference a b c e = omega arith

-- no more rows than nodes
pub rows_few : (tree : Rows) (nodes lengths : List ℕ) (rows : List SpanRow) → IsSpan tree nodes lengths rows → length rows ≤ length tree
rows_few tree nodes lengths rows is_span =
    omega (
      arith,
      map_length node_of_row rows,
      ap length is_span.named,
      passing_few (length tree) (is_forced tree nodes),
    )

module _ (tree : Rows) (nodes lengths : List ℕ) (rows : List SpanRow) (amounts : List ℕ) (flow : List FlowRow)
    (is_span : IsSpan tree nodes lengths rows) (limits : IsWithinLimits tree) (read : IsRead rows amounts flow) (solved : List ℤ)
    (solution : IsSolution (needs_of tree rows) (arcs_from (2 * length rows) 0 rows) amounts solved) where
  pub amounts_few : (i : ℕ) → slice_index amounts i ≤ 8193000
  amounts_few i =
      omega (
        arith,
        solution.bounded i,
        sum_few (length (needs_of tree rows)) (takes (needs_of tree rows)) (takes_few tree rows limits.light),
        needs_size tree rows,
        rows_few tree nodes lengths rows is_span,
        limits.few,
      )

  row_at : (i : ℕ) (f : FlowRow) → slice_get flow i ≡ Some f → (row : SpanRow) × (slice_get rows i ≡ Some row) × IsReadRow row f
  row_at i f h = some_right IsReadRow rows flow i f read.each h

  -- what a row sends, where it has the arc, is one of the amounts
  amount_few : (i : ℕ) (f : FlowRow) → slice_get flow i ≡ Some f → (kind : Kind) → amount_of kind f ≤ 8193000
  amount_few i f h kind =
      let r = row_at i f h in
      elim (there_or_none (bound r.0 kind)) [
        | inl none ↦ let e : amount_of kind f ≡ 0 = (r.2).none kind none in omega arith
        | inr some ↦
            let l = links_have 0 0 i i rows flow r.0 f kind some.0 (omega arith) r.1 h some.1 in
            let at : slice_index amounts l.0 ≡ amount_of kind f =
            get_or_from_slice_get amounts l.0 (amount_of kind f) 0
            (subst (λ xs. slice_get xs l.0 ≡ Some (amount_of kind f)) (links_amounts 0 0 rows flow ∙ read.whole)
            (get_map (λ (link : Link). link.1) (links_from 0 0 rows flow) l.0 (arc_to 0 i kind some.0, amount_of kind f) l.1)) in
            let few = amounts_few l.0 in omega arith
      ]

  small : AllRows is_small flow
  small i f h =
      and_from _ _ (small_enough _ (amount_few i f h Above))
      (and_from _ _ (small_enough _ (amount_few i f h Held))
      (and_from _ _ (small_enough _ (amount_few i f h First))
      (and_from _ _ (small_enough _ (amount_few i f h Last)) (small_enough _ (amount_few i f h Own)))))

  none_sent : (a b : ℕ) → a ≡ 0 → b ≡ 0 → (eqb a 0 && eqb b 0) ≡ true
  none_sent a b e f = and_from (eqb a 0) (eqb b 0) (eq-eqb a 0 e) (eq-eqb b 0 f)

  signs : AllRows (is_sign_ok tree nodes flow) flow
  signs i f h =
      let r = row_at i f h in
      and_from _ _
      (elim (there_or_none (r.0).parent) [
        | inl none ↦ or_right (has_parent tree flow f) (eqb f.above 0 && eqb f.held 0)
            (none_sent f.above f.held ((r.2).none Above none) ((r.2).none Held none))
        | inr some ↦
            let p = parent_known tree nodes lengths rows is_span i some.0 r.0 r.1 some.1 in
            let g = some_left IsReadRow rows flow some.0 p.0 read.each p.1 in
            or_left (has_parent tree flow f) (eqb f.above 0 && eqb f.held 0)
            (any_from (length flow) (λ k. is_parent_at tree f (slice_get flow k)) some.0 (slice_get_within flow some.0 g.0 g.1)
            (ap (λ o. is_parent_at tree f o) g.1 ∙ is_at_from (g.0).node (parent_of tree f.node)
            (ap (λ n. parent_of tree n) (r.2).node ∙ (p.2 ∙ ap (λ (v : ℕ). Some v) (sym (g.2).node)))))
      ])
      (elim (cases_Bool (is_accessed nodes f.node)) [
        | inl some ↦ or_left (is_accessed nodes f.node) (eqb f.first 0 && eqb f.last 0) some
        | inr none ↦
            let off : is_accessed nodes (r.0).node ≡ false = ap (λ n. is_accessed nodes n) (sym (r.2).node) ∙ none in
            let a = is_span.accesses i r.0 r.1 in
            or_right (is_accessed nodes f.node) (eqb f.first 0 && eqb f.last 0)
            (none_sent f.first f.last
            ((r.2).none First (a.from ∙ cond-false (is_accessed nodes (r.0).node) (Some (slots_before lengths (first_access nodes (r.0).node))) None off))
            ((r.2).none Last (a.until ∙ cond-false (is_accessed nodes (r.0).node) (Some (slots_before lengths (last_end nodes (r.0).node))) None off)))
      ])

  same_nodes : (some : List SpanRow) (those : List FlowRow) → AllZip IsReadRow some those → map node_of those ≡ map node_of_row some
  same_nodes [] [] each = refl
  same_nodes [] (f ∷ those) each = absurd each
  same_nodes (row ∷ some) [] each = absurd each
  same_nodes (row ∷ some) (f ∷ those) each = ap₂ (λ (n : ℕ) l. n ∷ l) (each.0).node (same_nodes some those each.1)

  pub balances : Balances tree nodes flow
  balances = record {
    forced = (forced_list_is_by_tree tree nodes (map node_of flow) is_span.is_tree is_span.are_nodes).1
        (same_nodes rows flow read.each ∙ is_span.named);
    signs = signs;
    locks = grind (arith, lock_balanced, row_at);
    releases = grind (arith, release_balanced, row_at);
  }

  module _ (places : List ℤ) (latest : IsLatest (2 * length rows + 1) (arcs_from (2 * length rows) 0 rows) amounts
      (pos (slots_before lengths (length nodes))) places) (lock release : ℕ → ℕ)
      (low : (k : ℕ) (row : SpanRow) → slice_get rows k ≡ Some row
      → (lock row.node ≤ length nodes) × (release row.node ≤ length nodes))
      (locks : (k : ℕ) (row : SpanRow) → slice_get rows k ≡ Some row
      → pos (slots_before lengths (lock row.node)) ≡ place places (2 * k))
      (releases : (k : ℕ) (row : SpanRow) → slice_get rows k ≡ Some row
      → pos (slots_before lengths (release row.node)) ≡ place places (2 * k + 1)) where
    are_places : ArePlaces tree nodes flow lock release
    are_places = latest_are_places tree nodes lengths rows is_span amounts places latest flow read lock release low locks releases

    abbrev pub plan : List Step
    plan = laid_out tree (forced_nodes tree nodes) lock release (length nodes)

    pub settles : IsSettled tree nodes lengths plan
    settles = Settling.settled tree nodes lengths is_span.is_tree is_span.are_nodes is_span.are_lengths is_span.paired flow lock release balances small are_places

    pub certifies : IsCertificate tree nodes lengths flow (cost tree lengths plan)
    certifies = Settling.certificate tree nodes lengths is_span.is_tree is_span.are_nodes is_span.are_lengths is_span.paired flow lock release balances small
        are_places

    holding_is : (v : ℕ) → IsForcedByTree tree nodes v → holding lengths plan v ≡ slots_before lengths (release v) - slots_before lengths (lock v)
    holding_is v sv =
        let five : MeetsFive tree nodes lengths plan = meets_five tree nodes lengths plan is_span.is_tree settles.least.legal in
        let a : first_lock_slot plan v ≡ lock v =
        Settling.lock_is tree nodes lengths is_span.is_tree is_span.are_nodes is_span.are_lengths is_span.paired flow lock release balances small are_places
        v sv in
        let b : first_release_slot plan v ≡ release v =
        Settling.release_is tree nodes lengths is_span.is_tree is_span.are_nodes is_span.are_lengths is_span.paired flow lock release balances small
        are_places v sv in
        grind (arith, difference)

    -- the cost, row by row
    pub costs : cost tree lengths plan ≡ sum_by (λ row. weight_of tree row.node * (slots_before lengths (release row.node) - slots_before lengths (lock row.node))) rows
    costs =
        sum_same (length tree) (λ v. weight_of tree v * holding lengths plan v)
        (λ v. cond (is_forced tree nodes v) (weight_of tree v * holding lengths plan v) 0)
        (λ v lt. part_all (is_forced tree nodes v) (weight_of tree v) (holding lengths plan v)
        (unforced_free tree nodes lengths plan v is_span.is_tree (λ i w h. Settling.locks_spanned tree nodes lengths is_span.is_tree
        is_span.are_nodes is_span.are_lengths is_span.paired flow lock release balances small are_places w (i, h))))
        ∙ (sym (sums_passing (λ v. weight_of tree v * holding lengths plan v) (length tree) (is_forced tree nodes))
        ∙ (ap (λ l. sum_by (λ v. weight_of tree v * holding lengths plan v) l) (sym is_span.named)
        ∙ (sums_map (λ v. weight_of tree v * holding lengths plan v) node_of_row rows
        ∙ sums_same (λ (row : SpanRow). weight_of tree row.node * holding lengths plan row.node)
        (λ row. weight_of tree row.node * (slots_before lengths (release row.node) - slots_before lengths (lock row.node))) rows
        (λ k row h. ap (λ n. weight_of tree row.node * n) (holding_is row.node
        (row_spanned tree nodes lengths rows is_span k row h))))))
