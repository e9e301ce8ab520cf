-- The plan laid out from the greatest numbers that fit and are tight along a flow that balances is the settled plan,
-- and the flow certifies its cost.
use Rattle.std.proofs.Common.{◌≡◌, ℕ, zero, suc, ◌+◌, ◌<◌, ◌≤◌, Bool, true, false, List, [], length, Some, refl, sym}
use Rattle.std.proofs.Common.{◌∙◌, ap, inl, inr, arith}
use Rattle.std.specs.List.{slice_get}
use Rattle.std.proofs.lemmas.Option.{same_Some, slice_get_within}
use Rattle.std.proofs.lemmas.Bool.{cases_Bool}
use Rattle.grove_tree.specs.Trees.{Rows, IsTree}
use Rattle.grove_base.specs.Numbers.{passing_below, alone}
use Rattle.grove_base.proofs.Counting.{count_mono, numbers_length, least_is, last_is}
use Rattle.grove_base.proofs.Lists.{get_map}
use Rattle.grove_tree.proofs.Tests.{is_at_true}
use Rattle.grove_tree.proofs.Above.{parent_lt, above_le}
use Rattle.grove_access.specs.Lists.{AreNodes}
use Rattle.grove_access.specs.ListFaults.{AreLengths}
use Rattle.grove_access.specs.Slots.{slots_before}
use Rattle.grove_access.proofs.Slots.{slots_tell}
use Rattle.grove_access.specs.Forced.{IsForcedByTree, is_forced, forced_nodes, names_at, is_accessed, first_access, last_end}
use Rattle.grove_access.proofs.ForcedByTree.{forced_listed, listed_forced, accessed_is_forced, forced_step}
use Rattle.grove_plan.specs.declared.step.Step.{Step}
use Rattle.grove_plan.specs.Plans.{is_access, cost, IsLegal, IsLeast, IsLockedBy}
use Rattle.grove_plan.specs.Slots.{accesses_before, first_lock_slot, first_release_slot}
use Rattle.grove_plan.proofs.Held.{accesses_length}
use Rattle.grove_proof.specs.declared.flow.FlowRow.{FlowRow}
use Rattle.grove_proof.specs.Flows.{node_of, is_small, AllRows, gains, losses, Balances, IsCertificate}
use Rattle.grove_proof.proofs.ForcedList.{forced_is_by_tree, forced_nodes_are_list}
use Rattle.grove_proof.proofs.FiveConstraints.{KeepsOrder, keeps_order, legal_meets_five}
use Rattle.grove_proof.proofs.ForcedRows.{parent_row, has_signs}
use Rattle.grove_proof.proofs.Slackness.{IsTight, tight_is_certified}
use Rattle.grove_proof.proofs.WeakDuality.{certified_is_least}
use Rattle.grove_build.specs.Layout.{laid_out}
use Rattle.grove_build.specs.Settled.{IsSettled}
use Rattle.grove_build.proofs.Runs.{Has, Rises, itself, rises_append}
use Rattle.grove_build.proofs.Fitting.{Fits, AreTight, ArePlaces}
use Rattle.grove_build.proofs.Alike.{laid_alike}
use Rattle.grove_build.proofs.Laying as Laying
use Rattle.grove_build.proofs.Cheap.{cheap_is_tight}

alone_rises : (b : Bool) (n : ℕ) → Rises itself n (suc n) (alone b n)
alone_rises true n = (omega arith, omega arith)
alone_rises false n = omega arith

-- the numbers that pass rise
pub passing_rise : (n : ℕ) (test : ℕ → Bool) → Rises itself 0 n (passing_below n test)
passing_rise zero test = omega arith
passing_rise (suc n) test = grind (arith, alone_rises, itself, rises_append, passing_rise n test)

-- the slots of a legal plan fit
pub slots_fit : (rows : Rows) (nodes : List ℕ) (plan : List Step) → IsTree rows → IsLegal rows nodes plan
    → Fits rows nodes (first_lock_slot plan) (first_release_slot plan)
slots_fit rows nodes plan tree legal =
    let both = legal_meets_five rows nodes [] plan tree legal in
    let order : KeepsOrder rows nodes plan = keeps_order rows nodes plan tree legal in
    record {
      above = order.above;
      held = order.held;
      first = order.first;
      last = order.last;
      own = order.own;
      top = λ v sv.
          let u = (both.1 v sv).1 in
          let lt : u.0 < length plan = slice_get_within plan u.0 _ u.1 in
          let a : first_release_slot plan v ≡ accesses_before plan u.0 = u.2 in
          let b : accesses_before plan u.0 ≤ accesses_before plan (length plan) =
          count_mono u.0 (length plan) (λ k. is_access (slice_get plan k)) (omega arith) in
          omega (arith, accesses_length plan, ap length legal.performs.in_order, numbers_length (length nodes));
    }

module _ (rows : Rows) (nodes lengths : List ℕ) (is_tree : IsTree rows) (are_nodes : AreNodes rows nodes)
    (are_lengths : AreLengths lengths) (paired : length lengths ≡ length nodes) where
  abbrev span : List ℕ
  span = forced_nodes rows nodes

  abbrev m : ℕ
  m = length nodes

  abbrev n : ℕ
  n = length rows

  module _ (flow : List FlowRow) (lock release : ℕ → ℕ) (balances : Balances rows nodes flow)
      (small : AllRows is_small flow) (places : ArePlaces rows nodes flow lock release) where
    abbrev pub plan : List Step
    plan = laid_out rows span lock release m

    has : (v : ℕ) → IsForcedByTree rows nodes v → Has span v
    has v s = let l = forced_listed rows nodes v is_tree are_nodes s in (l.0, l.1)

    got : (v : ℕ) → Has span v → IsForcedByTree rows nodes v
    got v h = listed_forced rows nodes h.0 v is_tree are_nodes h.1

    rising : Rises itself 0 (length rows) span
    rising = passing_rise n (is_forced rows nodes)

    legal : IsLegal rows nodes plan
    legal = Laying.legal rows nodes span lock release places.fits rising has got (accessed_is_forced rows nodes)
        (λ v s. forced_step rows nodes v is_tree are_nodes s)
        (parent_lt rows is_tree) (above_le rows is_tree) (suc (n + (n + n))) refl

    pub lock_is : (v : ℕ) → IsForcedByTree rows nodes v → first_lock_slot plan v ≡ lock v
    lock_is = Laying.lock_slot_is rows nodes span lock release places.fits rising has got
        (accessed_is_forced rows nodes) (λ v s. forced_step rows nodes v is_tree are_nodes s)
        (parent_lt rows is_tree) (above_le rows is_tree) (suc (n + (n + n))) refl

    pub release_is : (v : ℕ) → IsForcedByTree rows nodes v → first_release_slot plan v ≡ release v
    release_is = Laying.release_slot_is rows nodes span lock release places.fits rising has got
        (accessed_is_forced rows nodes) (λ v s. forced_step rows nodes v is_tree are_nodes s)
        (parent_lt rows is_tree) (above_le rows is_tree) (suc (n + (n + n))) refl

    pub locks_spanned : (v : ℕ) → IsLockedBy plan v → IsForcedByTree rows nodes v
    locks_spanned = Laying.locks_span rows nodes span lock release places.fits rising has got
        (accessed_is_forced rows nodes) (λ v s. forced_step rows nodes v is_tree are_nodes s)
        (parent_lt rows is_tree) (above_le rows is_tree) (suc (n + (n + n))) refl

    spanned_locked : (v : ℕ) → IsForcedByTree rows nodes v → IsLockedBy plan v
    spanned_locked = Laying.span_locked rows nodes span lock release places.fits rising has got
        (accessed_is_forced rows nodes) (λ v s. forced_step rows nodes v is_tree are_nodes s)
        (parent_lt rows is_tree) (above_le rows is_tree) (suc (n + (n + n))) refl

    flow_spanned : (i : ℕ) (row : FlowRow) → slice_get flow i ≡ Some row → IsForcedByTree rows nodes row.node
    flow_spanned i row h = (forced_is_by_tree rows nodes row.node is_tree are_nodes).0
        ((balances.forced.forced row.node).0 (i, get_map node_of flow i row h))

    laid_is_tight : IsTight rows nodes lengths flow plan
    laid_is_tight = record {
      above = λ i row parent h up some. elim (parent_row rows flow row) [
        | inl over ↦ grind (arith, flow_spanned, is_at_true, lock_is, same_Some)
        | inr none ↦ let z = ((has_signs rows nodes flow row (balances.signs i row h)).top none).0 in
            absurd (omega arith)
      ];
      held = λ i row parent h up some. elim (parent_row rows flow row) [
        | inl over ↦ grind (arith, flow_spanned, is_at_true, lock_is, release_is, same_Some)
        | inr none ↦ let z = ((has_signs rows nodes flow row (balances.signs i row h)).top none).1 in
            absurd (omega arith)
      ];
      first = λ i row h some. elim (cases_Bool (is_accessed nodes row.node)) [
        | inl some_access ↦ ap (slots_before lengths) (lock_is row.node (flow_spanned i row h) ∙ places.tight.first i row h some_access some)
        | inr none ↦ let z = ((has_signs rows nodes flow row (balances.signs i row h)).unaccessed none).0 in
            absurd (omega arith)
      ];
      last = λ i row h some. elim (cases_Bool (is_accessed nodes row.node)) [
        | inl some_access ↦ ap (slots_before lengths) (places.tight.last i row h some_access some
            ∙ sym (release_is row.node (flow_spanned i row h)))
        | inr none ↦ let z = ((has_signs rows nodes flow row (balances.signs i row h)).unaccessed none).1 in
            absurd (omega arith)
      ];
      own = grind (arith, flow_spanned, lock_is, release_is);
    }

    pub certificate : IsCertificate rows nodes lengths flow (cost rows lengths plan)
    certificate = grind (arith, laid_is_tight, legal, locks_spanned, tight_is_certified)

    pub least : IsLeast rows nodes lengths plan
    least = certified_is_least rows nodes lengths flow plan is_tree are_nodes legal certificate

    -- accesses with the same slots before them are the same
    same_slots : (i j : ℕ) → i ≤ m → j ≤ m → slots_before lengths i ≡ slots_before lengths j → i ≡ j
    same_slots i j a b = slots_tell lengths i j are_lengths (omega arith) (omega arith)

    other_tight : (other : List Step) → IsLeast rows nodes lengths other
        → AreTight rows nodes flow (first_lock_slot other) (first_release_slot other)
    other_tight other o =
        let a : cost rows lengths other ≤ cost rows lengths plan = o.least plan legal in
        let b : gains nodes lengths flow ≡ cost rows lengths plan + losses nodes lengths flow = certificate.value in
        let t = cheap_is_tight rows nodes lengths flow other is_tree are_nodes balances o.legal (omega arith) in
        let fits : Fits rows nodes (first_lock_slot other) (first_release_slot other) = slots_fit rows nodes other is_tree o.legal in
        let low : (v : ℕ) → IsForcedByTree rows nodes v → first_lock_slot other v ≤ m = λ v sv.
        omega (arith, fits.own v sv, fits.top v sv) in
        record {
          above = λ i j row parent g h child some. same_slots _ _ (low parent.node (flow_spanned j parent h)) (low row.node (flow_spanned i row g))
              (t.above i j row parent g h child some);
          held = λ i j row parent g h child some. same_slots _ _ (low row.node (flow_spanned i row g)) (fits.top parent.node (flow_spanned j parent h))
              (t.held i j row parent g h child some);
          first = λ i row g accessed some. same_slots _ _ (low row.node (flow_spanned i row g))
              (let l = least_is (length nodes) (names_at nodes row.node) accessed in let lt : first_access nodes row.node < length nodes = l.0 in omega arith)
              (t.first i row g accessed some);
          last = λ i row g accessed some. same_slots _ _
              (let l = last_is (length nodes) (names_at nodes row.node) accessed in let is : last_end nodes row.node ≡ suc l.0 = l.1 in let lt : l.0 < length nodes = l.2 in omega arith)
              (fits.top row.node (flow_spanned i row g)) (t.last i row g accessed some);
          own = λ i row g some. same_slots _ _ (low row.node (flow_spanned i row g)) (fits.top row.node (flow_spanned i row g)) (t.own i row g some);
        }

    pub settled : IsSettled rows nodes lengths plan
    settled = record {
      least = least;
      locks = λ v. (
        λ l. (forced_is_by_tree rows nodes v is_tree are_nodes).1 (locks_spanned v l),
        λ f.
            spanned_locked v ((forced_is_by_tree rows nodes v is_tree are_nodes).0 f),
      );
      lock_latest = λ other o v f.
          let sv : IsForcedByTree rows nodes v = (forced_is_by_tree rows nodes v is_tree are_nodes).0 f in
          let a : first_lock_slot other v ≤ lock v =
          places.lock_greatest (first_lock_slot other) (first_release_slot other) (slots_fit rows nodes other is_tree o.legal)
          (other_tight other o) v sv in
          let b : first_lock_slot plan v ≡ lock v = lock_is v sv in omega arith;
      release_latest = λ other o v f.
          let sv : IsForcedByTree rows nodes v = (forced_is_by_tree rows nodes v is_tree are_nodes).0 f in
          let a : first_release_slot other v ≤ release v =
          places.release_greatest (first_lock_slot other) (first_release_slot other) (slots_fit rows nodes other is_tree o.legal)
          (other_tight other o) v sv in
          let b : first_release_slot plan v ≡ release v = release_is v sv in omega arith;
      list = span;
      is_forced_list = forced_nodes_are_list rows nodes is_tree are_nodes;
      laid = grind (arith, got, laid_alike, lock_is, release_is);
    }
