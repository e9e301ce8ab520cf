-- A plan over a cut of a tree is least exactly where it is so over the whole tree: from each legal plan over the whole one is laid out over the cut
-- with the same slots, which costs no more.
use Rattle.std.proofs.Common.{◌≡◌, ℕ, zero, suc, ◌+◌, ◌*◌, ◌<◌, ◌≤◌, List, length, map, refl, sym, ◌∙◌, ap, subst, inl, inr, arith, le_trans, mul-le-mul_left}
use Rattle.std.specs.Option.{option_map}
use Rattle.std.proofs.lemmas.Bool.{cases_Bool, cases_eq}
use Rattle.grove_base.specs.Numbers.{sum_below}
use Rattle.grove_base.proofs.Counting.{sum_le}
use Rattle.grove_base.proofs.Lists.{get_map, map_length}
use Rattle.grove_tree.specs.Trees.{Rows, weight_of, IsTree}
use Rattle.grove_tree.proofs.Above.{parent_lt, above_le}
use Rattle.grove_access.specs.Lists.{AreNodes}
use Rattle.grove_access.specs.Slots.{slots_before}
use Rattle.grove_access.specs.Forced.{IsForcedByTree, is_forced, forced_nodes}
use Rattle.grove_access.proofs.ForcedByTree.{forced_listed, listed_forced, accessed_is_forced, forced_step, forced_got}
use Rattle.grove_plan.specs.declared.step.Step.{Step}
use Rattle.grove_plan.specs.Plans.{holding, cost, IsLegal, IsLeast}
use Rattle.grove_plan.specs.Slots.{first_lock_slot, first_release_slot}
use Rattle.grove_proof.specs.Five.{MeetsFive, release_time}
use Rattle.grove_proof.proofs.FiveConstraints.{meets_five}
use Rattle.grove_proof.proofs.Slackness.{unforced_free}
use Rattle.grove_build.specs.Layout.{laid_out}
use Rattle.grove_cut.specs.CutTrees.{IsCut, plan_at_origin, CutsKeepLeast}
use Rattle.grove_build.proofs.Runs.{Has, Rises, itself}
use Rattle.grove_build.proofs.Fitting.{Fits}
use Rattle.grove_build.proofs.Settling.{passing_rise, slots_fit}
use Rattle.grove_build.proofs.Laying as Laying
use Rattle.grove_cut.proofs.CutPlans.{cuts_keep_legal, cuts_keep_cost}
use Rattle.grove_cut.proofs.CutTrees.{cut_is_tree}
use Rattle.grove_cut.proofs.CutFlows.{forced_at_origin}

-- a sum over some origins is at most that over all numbers
sum_some : (origin : ℕ → ℕ) → ((a b : ℕ) → a < b → origin a < origin b) → (n m : ℕ) (f : ℕ → ℕ) → ((k : ℕ) → k < m → origin k < n)
    → sum_below m (λ k. f (origin k)) ≤ sum_below n f
sum_some origin rises n zero f within = omega arith
sum_some origin rises zero (suc m) f within = let no : origin m < 0 = within m (omega arith) in absurd (omega arith)
sum_some origin rises (suc n) (suc m) f within = elim (cases_eq (origin m) n) [
  | inl e ↦
      let here : f (origin m) ≡ f n = ap f e in
      let rest : sum_below m (λ k. f (origin k)) ≤ sum_below n f = sum_some origin rises n m f
      (λ k lt. let less : origin k < origin m = rises k m lt in omega arith) in
      omega arith
  | inr ne ↦
      let last : origin m < suc n = within m (omega arith) in
      let rest : sum_below (suc m) (λ k. f (origin k)) ≤ sum_below n f = sum_some origin rises n (suc m) f
      (λ k lt. elim (cases_eq k m) [
        | inl e ↦ let same : origin k ≡ origin m = ap origin e in omega arith
        | inr other ↦ let less : origin k < origin m = rises k m (omega arith) in omega arith
      ]) in
      omega arith
]

module _ (whole cut : Rows) (origin : ℕ → ℕ) (tree : IsTree whole) (is : IsCut whole cut origin) (nodes : List ℕ) (fits : AreNodes cut nodes) where
  -- Each legal plan over the whole, laid out over the cut

  module _ (other : List Step) (legal : IsLegal whole (map origin nodes) other) where
    abbrev lock : ℕ → ℕ
    lock v = first_lock_slot other (origin v)

    abbrev release : ℕ → ℕ
    release v = first_release_slot other (origin v)

    abbrev span : List ℕ
    span = forced_nodes cut nodes

    abbrev pub laid : List Step
    laid = laid_out cut span lock release (length nodes)

    is_tree : IsTree cut
    is_tree = cut_is_tree whole cut origin is tree

    over : (v : ℕ) → IsForcedByTree cut nodes v → IsForcedByTree whole (map origin nodes) (origin v)
    over = forced_at_origin whole cut origin is nodes

    slots : Fits cut nodes lock release
    slots =
        let all : Fits whole (map origin nodes) (first_lock_slot other) (first_release_slot other) = slots_fit whole (map origin nodes) other tree legal in
        record {
          above = λ v p sv sp up. all.above (origin v) (origin p) (over v sv) (over p sp) (is.parents v ∙ ap (option_map origin) up);
          held = λ v p sv sp up. all.held (origin v) (origin p) (over v sv) (over p sp) (is.parents v ∙ ap (option_map origin) up);
          first = λ v access h. all.first (origin v) access (get_map origin nodes access v h);
          last = λ v access h. all.last (origin v) access (get_map origin nodes access v h);
          own = λ v sv. all.own (origin v) (over v sv);
          top = λ v sv. omega (arith, all.top (origin v) (over v sv), map_length origin nodes);
        }

    has : (v : ℕ) → IsForcedByTree cut nodes v → Has span v
    has v s = let l = forced_listed cut nodes v is_tree fits s in (l.0, l.1)

    got : (v : ℕ) → Has span v → IsForcedByTree cut nodes v
    got v h = listed_forced cut nodes h.0 v is_tree fits h.1

    rising : Rises itself 0 (length cut) span
    rising = passing_rise (length cut) (is_forced cut nodes)

    abbrev width : ℕ
    width = suc (length cut + (length cut + length cut))

    pub laid_legal : IsLegal cut nodes laid
    laid_legal = Laying.legal cut nodes span lock release slots rising has got (accessed_is_forced cut nodes) (λ v s. forced_step cut nodes v is_tree fits s)
        (parent_lt cut is_tree) (above_le cut is_tree) width refl

    pub laid_lock : (v : ℕ) → IsForcedByTree cut nodes v → first_lock_slot laid v ≡ first_lock_slot other (origin v)
    laid_lock = Laying.lock_slot_is cut nodes span lock release slots rising has got (accessed_is_forced cut nodes) (λ v s. forced_step cut nodes v is_tree fits s)
        (parent_lt cut is_tree) (above_le cut is_tree) width refl

    pub laid_release : (v : ℕ) → IsForcedByTree cut nodes v → first_release_slot laid v ≡ first_release_slot other (origin v)
    laid_release = Laying.release_slot_is cut nodes span lock release slots rising has got (accessed_is_forced cut nodes) (λ v s. forced_step cut nodes v is_tree fits s)
        (parent_lt cut is_tree) (above_le cut is_tree) width refl

    holds_less : (lengths : List ℕ) (v : ℕ) → holding lengths laid v ≤ holding lengths other (origin v)
    holds_less lengths v = elim (cases_Bool (is_forced cut nodes v)) [
      | inl forced ↦
          let s : IsForcedByTree cut nodes v = forced_got cut nodes v is_tree fits forced in
          let under : MeetsFive cut nodes lengths laid = meets_five cut nodes lengths laid is_tree laid_legal in
          let all : MeetsFive whole (map origin nodes) lengths other = meets_five whole (map origin nodes) lengths other tree legal in
          let d : release_time lengths laid v ≡ release_time lengths other (origin v) = ap (slots_before lengths) (laid_release v s) in
          omega (arith, under.holds v s, all.holds (origin v) (over v s), ap (slots_before lengths) (laid_lock v s))
      | inr free ↦
          let none : holding lengths laid v ≡ 0 = unforced_free cut nodes lengths laid v is_tree
          (λ i w h. Laying.locks_span cut nodes span lock release slots rising has got (accessed_is_forced cut nodes)
          (λ v s. forced_step cut nodes v is_tree fits s) (parent_lt cut is_tree) (above_le cut is_tree) width refl w (i, h)) free in
          omega arith
    ]

    -- it costs no more
    pub laid_cheap : (lengths : List ℕ) → cost cut lengths laid ≤ cost whole lengths other
    laid_cheap lengths = le_trans
        (sum_le (length cut) (λ v. weight_of cut v * holding lengths laid v) (λ v. weight_of whole (origin v) * holding lengths other (origin v))
        (λ v lt. subst (λ (w : ℕ). weight_of cut v * holding lengths laid v ≤ w * holding lengths other (origin v)) (sym (is.weights v))
        (mul-le-mul_left (weight_of cut v) (holds_less lengths v))))
        (sum_some origin is.rises (length whole) (length cut) (λ u. weight_of whole u * holding lengths other u) (λ k lt. (is.within k).0 lt))

  -- Least plans

  module _ (lengths : List ℕ) (plan : List Step) where
    least_at_origin : IsLeast cut nodes lengths plan → IsLeast whole (map origin nodes) lengths (plan_at_origin origin plan)
    least_at_origin h = record {
      legal = (cuts_keep_legal whole cut origin is nodes plan).0 h.legal;
      least = λ other legal.
          let b : cost cut lengths plan ≤ cost cut lengths (laid other legal) = h.least (laid other legal) (laid_legal other legal) in
          omega (arith, cuts_keep_cost whole cut origin is lengths plan, laid_cheap other legal lengths);
    }

    least_cut : IsLeast whole (map origin nodes) lengths (plan_at_origin origin plan) → IsLeast cut nodes lengths plan
    least_cut h = record {
      legal = (cuts_keep_legal whole cut origin is nodes plan).1 h.legal;
      least = λ other legal.
          let b : cost whole lengths (plan_at_origin origin plan) ≤ cost whole lengths (plan_at_origin origin other) =
          h.least (plan_at_origin origin other) ((cuts_keep_legal whole cut origin is nodes other).0 legal) in
          let c : cost whole lengths (plan_at_origin origin other) ≡ cost cut lengths other = cuts_keep_cost whole cut origin is lengths other in
          omega (arith, cuts_keep_cost whole cut origin is lengths plan);
    }

  -- what is laid out from a least plan is least
  pub laid_least : (lengths : List ℕ) (other : List Step) (h : IsLeast whole (map origin nodes) lengths other) → IsLeast cut nodes lengths (laid other h.legal)
  laid_least lengths other h = record {
    legal = laid_legal other h.legal;
    least = λ q legal.
        let b : cost whole lengths other ≤ cost whole lengths (plan_at_origin origin q) = h.least (plan_at_origin origin q) ((cuts_keep_legal whole cut origin is nodes q).0 legal) in
        omega (arith, laid_cheap other h.legal lengths, cuts_keep_cost whole cut origin is lengths q);
  }

pub cuts_keep_least : CutsKeepLeast
cuts_keep_least whole cut origin tree is nodes lengths plan fits =
    (least_at_origin whole cut origin tree is nodes fits lengths plan, least_cut whole cut origin tree is nodes fits lengths plan)
