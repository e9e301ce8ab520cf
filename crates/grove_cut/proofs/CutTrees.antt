-- A cut of a tree is a tree, and what lies above its nodes is what lies above their origins.
use Rattle.std.proofs.Common.{◌≡◌, ℕ, zero, suc, ◌-◌, ◌<◌, ◌≤◌, List, length, Option, Some, None, refl, sym, ◌∙◌, ap}
use Rattle.std.proofs.Common.{subst, inl, inr, arith, IsTrue, le_trans}
use Rattle.std.specs.Option.{option_map, option_and_then}
use Rattle.std.proofs.lemmas.Option.{none-some}
use Rattle.std.proofs.lemmas.Bool.{cases_eq}
use Rattle.grove_tree.specs.Trees.{Rows, parent_of, name_of, up, one_more, depth_within, IsAbove, IsTree}
use Rattle.grove_tree.specs.Rules.{is_name, heaviest, IsWithinLimits}
use Rattle.grove_tree.proofs.Above.{above_between, parent_lt}
use Rattle.grove_cut.specs.CutTrees.{IsCut, CutsAreTrees}
use Rattle.grove_cut.proofs.CutPlans.{parent_cut, same_origin, origin_less}
use Rattle.grove_base.proofs.Lists.{there_or_none}

-- every node but the root has a parent
has_parent : (rows : Rows) → IsTree rows → (v : ℕ) → 0 < v → v < length rows → (p : ℕ) × (parent_of rows v ≡ Some p)
has_parent rows tree zero some lt = absurd (omega arith)
has_parent rows tree (suc v) some lt = let (p, own, way) = tree.preorder v lt in (p, own)

one_more_grows : (f g : ℕ → ℕ) → ((v : ℕ) → f v ≤ g v) → (o : Option ℕ) → one_more f o ≤ one_more g o
one_more_grows f g le None = omega arith
one_more_grows f g le (Some p) = let here : f p ≤ g p = le p in omega arith

-- more steps up find no fewer parents
depth_grows : (rows : Rows) (m n v : ℕ) → m ≤ n → depth_within rows m v ≤ depth_within rows n v
depth_grows rows zero n v le = omega arith
depth_grows rows (suc m) zero v le = absurd (omega arith)
depth_grows rows (suc m) (suc n) v le = one_more_grows (depth_within rows m) (depth_within rows n) (λ w. depth_grows rows m n w (omega arith)) (parent_of rows v)

module _ (whole cut : Rows) (origin : ℕ → ℕ) (is : IsCut whole cut origin) where
  up_step : (o : Option ℕ) → option_and_then (parent_of whole) (option_map origin o) ≡ option_map origin (option_and_then (parent_of cut) o)
  up_step None = refl
  up_step (Some v) = is.parents v

  -- so many steps up from an origin is the origin of what is so many steps up
  pub up_at_origin : (n v : ℕ) → up whole n (origin v) ≡ option_map origin (up cut n v)
  up_at_origin zero v = refl
  up_at_origin (suc n) v = ap (λ (o : Option ℕ). option_and_then (parent_of whole) o) (up_at_origin n v) ∙ up_step (up cut n v)

  pub above_at_origin : (a b : ℕ) → IsAbove cut a b → IsAbove whole (origin a) (origin b)
  above_at_origin a b (n, e) = (n, up_at_origin n b ∙ ap (option_map origin) e)

  -- what is above an origin is an origin
  pub above_cut : (u b : ℕ) → IsAbove whole u (origin b) → (a : ℕ) × IsAbove cut a b × (origin a ≡ u)
  above_cut u b (n, e) = let (a, way, same) = parent_cut origin (up cut n b) u (sym (up_at_origin n b) ∙ e) in (a, (n, way), same)

  pub above_both : (a b : ℕ) → IsAbove whole (origin a) (origin b) → IsAbove cut a b
  above_both a b h =
      let (c, above, same) = above_cut (origin a) b h in
      subst (λ (n : ℕ). IsAbove cut n b) (same_origin origin is.rises c a same) above

  deeper : (n : ℕ) → ((v : ℕ) → depth_within cut n v ≡ depth_within whole n (origin v)) → (o : Option ℕ)
      → one_more (depth_within cut n) o ≡ one_more (depth_within whole n) (option_map origin o)
  deeper n same None = refl
  deeper n same (Some p) = ap suc (same p)

  -- an origin is as deep as its node, within as many steps up
  pub depth_at_origin : (n v : ℕ) → depth_within cut n v ≡ depth_within whole n (origin v)
  depth_at_origin zero v = refl
  depth_at_origin (suc n) v = deeper n (depth_at_origin n) (parent_of cut v) ∙ ap (one_more (depth_within whole n)) (sym (is.parents v))

  -- origins are no smaller than their nodes
  origin_le : (v : ℕ) → v ≤ origin v
  origin_le zero = omega arith
  origin_le (suc v) = let le : v ≤ origin v = origin_le v in let lt : origin v < origin (suc v) = is.rises v (suc v) (omega arith) in omega arith

  module _ (tree : IsTree whole) where
    no_parent : parent_of cut 0 ≡ None
    no_parent = elim (there_or_none (parent_of cut 0)) [
      | inl none ↦ none
      | inr some ↦
          let less : origin some.0 < origin 0 = parent_lt whole tree (origin 0) (origin some.0) (is.parents 0 ∙ ap (option_map origin) some.1) in
          let no : some.0 < 0 = origin_less origin is.rises some.0 0 less in absurd (omega arith)
    ]

    pub first_origin : origin 0 ≡ 0
    first_origin = elim (cases_eq (origin 0) 0) [
      | inl e ↦ e
      | inr ne ↦
          let (p, own) = has_parent whole tree (origin 0) (omega arith) ((is.within 0).0 is.some) in
          absurd (none-some p (sym (is.parents 0 ∙ ap (option_map origin) no_parent) ∙ own))
    ]

    in_order : (v : ℕ) → suc v < length cut → (p : ℕ) × (parent_of cut (suc v) ≡ Some p) × IsAbove cut p v
    in_order v lt =
        let within : origin (suc v) < length whole = (is.within (suc v)).0 lt in
        let step : origin v < origin (suc v) = is.rises v (suc v) (omega arith) in
        let (q, own) = has_parent whole tree (origin (suc v)) (omega arith) within in
        let (p, parent, same) = parent_cut origin (parent_of cut (suc v)) q (sym (is.parents (suc v)) ∙ own) in
        let up_one : parent_of whole (origin (suc v)) ≡ Some (origin p) = own ∙ ap (λ (n : ℕ). Some n) (sym same) in
        let less : p < suc v = origin_less origin is.rises p (suc v) (parent_lt whole tree (origin (suc v)) (origin p) up_one) in
        let le : origin p ≤ origin v = elim (cases_eq p v) [
          | inl e ↦ let eq : origin p ≡ origin v = ap origin e in omega arith
          | inr ne ↦ let lt : origin p < origin v = is.rises p v (omega arith) in omega arith
        ] in
        (p, parent, above_both p v (above_between whole tree (origin p) (origin (suc v)) (origin v) within (1, up_one) le (omega arith)))

    pub cut_is_tree : IsTree cut
    cut_is_tree = record { some = is.some; root = no_parent; preorder = in_order }

    pub no_more : length cut ≤ length whole
    no_more =
        let some : 0 < length cut = is.some in
        omega (arith, (is.within (length cut - 1)).0 (omega arith), origin_le (length cut - 1))

    named : IsWithinLimits whole → (v : ℕ) → 0 < v → v < length whole → IsTrue (is_name (name_of whole v))
    named limits zero some lt = absurd (omega arith)
    named limits (suc v) some lt = limits.names v lt

    limited : ((node : ℕ) → name_of whole (origin node) ≡ name_of cut node) → IsWithinLimits whole → IsWithinLimits cut
    limited names limits = record {
      few = le_trans no_more limits.few;
      shallow = λ v. le_trans
          (subst (λ (n : ℕ). n ≤ depth_within whole (length whole) (origin v)) (sym (depth_at_origin (length cut) v))
          (depth_grows whole (length cut) (length whole) (origin v) no_more)) (limits.shallow (origin v));
      unnamed_root = sym (names 0) ∙ (ap (name_of whole) first_origin ∙ limits.unnamed_root);
      names = λ v lt. subst (λ (n : List ℕ). IsTrue (is_name n)) (names (suc v)) (named limits (origin (suc v))
          (let step : origin v < origin (suc v) = is.rises v (suc v) (omega arith) in omega arith) ((is.within (suc v)).0 lt));
      differ = λ a b p up_a up_b same. same_origin origin is.rises a b
          (limits.differ (origin a) (origin b) (origin p) (is.parents a ∙ ap (option_map origin) up_a) (is.parents b ∙ ap (option_map origin) up_b)
          (names a ∙ (same ∙ sym (names b))));
      weighty = λ v lt. subst (λ (n : ℕ). 1 ≤ n) (is.weights v) (limits.weighty (origin v) ((is.within v).0 lt));
      light = λ v. subst (λ (n : ℕ). n ≤ heaviest) (is.weights v) (limits.light (origin v));
    }

pub cuts_are_trees : CutsAreTrees
cuts_are_trees whole cut origin (tree, limits) is names =
    (cut_is_tree whole cut origin is tree, limited whole cut origin is tree names limits)
