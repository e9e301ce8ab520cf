-- A plan over a cut of a tree is legal exactly where it is so over the whole tree, and costs the same.
use Rattle.std.proofs.Common.{◌≡◌, ℕ, zero, suc, ◌*◌, ◌<◌, Bool, true, false, not, ◌&&◌, ◌||◌, cond, eqb, ltb, List, [], ◌∷◌, length, map, Option, Some, None, refl, sym, ◌∙◌, ap, ap₂, subst, inl, inr, arith, mul-zero, ◌↔◌}
use Rattle.std.specs.List.{slice_get}
use Rattle.std.specs.Option.{option_map}
use Rattle.std.proofs.lemmas.Option.{none-some, same_Some}
use Rattle.std.proofs.lemmas.Bool.{cases_order, cases_eq, both_ways, eqb-true, eq-eqb, cond-false}
use Rattle.grove_base.specs.Numbers.{any_below, sum_below, numbers_below}
use Rattle.grove_base.proofs.Counting.{same_tests, sum_same, sum_zero}
use Rattle.grove_base.proofs.Lists.{get_map, get_map_inv, map_length}
use Rattle.grove_tree.specs.Trees.{Rows, parent_of, weight_of}
use Rattle.grove_plan.specs.declared.step.Step.{Step}
use Rattle.grove_plan.specs.declared.step.Step.TheVariants.{Lock, Unlock, Access}
use Rattle.grove_plan.specs.Plans.{locks, unlocks, is_access, held, accesses_of, slots_of, holding, IsLater, ObeysTreeProtocol, Performs}
use Rattle.grove_plan.proofs.Held.{held_not, held_from}
use Rattle.grove_cut.specs.CutTrees.{IsCut, step_at_origin, plan_at_origin, CutsKeepLegal, CutsKeepCost}

-- tests that agree below a bound
pub any_same : (n : ℕ) (f g : ℕ → Bool) → ((k : ℕ) → f k ≡ g k) → any_below n f ≡ any_below n g
any_same zero f g h = refl
any_same (suc n) f g h = ap₂ (λ a b. a || b) (h n) (any_same n f g h)

-- Steps over the cut and over the whole

pub locks_at_origin : (origin : ℕ → ℕ) → ((a b : ℕ) → eqb (origin a) (origin b) ≡ eqb a b) → (plan : List Step) (v i : ℕ)
    → locks (origin v) (slice_get (plan_at_origin origin plan) i) ≡ locks v (slice_get plan i)
locks_at_origin origin same [] v i = refl
locks_at_origin origin same (Lock w ∷ plan) v zero = same w v
locks_at_origin origin same (Unlock w ∷ plan) v zero = refl
locks_at_origin origin same (Access a ∷ plan) v zero = refl
locks_at_origin origin same (step ∷ plan) v (suc i) = locks_at_origin origin same plan v i

pub unlocks_at_origin : (origin : ℕ → ℕ) → ((a b : ℕ) → eqb (origin a) (origin b) ≡ eqb a b) → (plan : List Step) (v i : ℕ)
    → unlocks (origin v) (slice_get (plan_at_origin origin plan) i) ≡ unlocks v (slice_get plan i)
unlocks_at_origin origin same [] v i = refl
unlocks_at_origin origin same (Lock w ∷ plan) v zero = refl
unlocks_at_origin origin same (Unlock w ∷ plan) v zero = same w v
unlocks_at_origin origin same (Access a ∷ plan) v zero = refl
unlocks_at_origin origin same (step ∷ plan) v (suc i) = unlocks_at_origin origin same plan v i

pub accesses_at_origin : (origin : ℕ → ℕ) (plan : List Step) (i : ℕ)
    → is_access (slice_get (plan_at_origin origin plan) i) ≡ is_access (slice_get plan i)
accesses_at_origin origin [] i = refl
accesses_at_origin origin (Lock w ∷ plan) zero = refl
accesses_at_origin origin (Unlock w ∷ plan) zero = refl
accesses_at_origin origin (Access a ∷ plan) zero = refl
accesses_at_origin origin (step ∷ plan) (suc i) = accesses_at_origin origin plan i

slots_at_origin : (origin : ℕ → ℕ) (lengths : List ℕ) (plan : List Step) (i : ℕ)
    → slots_of lengths (slice_get (plan_at_origin origin plan) i) ≡ slots_of lengths (slice_get plan i)
slots_at_origin origin lengths [] i = refl
slots_at_origin origin lengths (Lock w ∷ plan) zero = refl
slots_at_origin origin lengths (Unlock w ∷ plan) zero = refl
slots_at_origin origin lengths (Access a ∷ plan) zero = refl
slots_at_origin origin lengths (step ∷ plan) (suc i) = slots_at_origin origin lengths plan i

-- the same accesses are done
done_at_origin : (origin : ℕ → ℕ) (plan : List Step) → accesses_of (plan_at_origin origin plan) ≡ accesses_of plan
done_at_origin origin [] = refl
done_at_origin origin (Lock w ∷ plan) = done_at_origin origin plan
done_at_origin origin (Unlock w ∷ plan) = done_at_origin origin plan
done_at_origin origin (Access a ∷ plan) = ap (λ (l : List ℕ). a ∷ l) (done_at_origin origin plan)

lock_from : (origin : ℕ → ℕ) (step : Step) (u : ℕ) → step_at_origin origin step ≡ Lock u → (v : ℕ) × (step ≡ Lock v) × (origin v ≡ u)
lock_from origin (Lock v) u e = (v, refl, cc)
lock_from origin (Unlock v) u e = absurd (cc)
lock_from origin (Access a) u e = absurd (cc)

unlock_from : (origin : ℕ → ℕ) (step : Step) (u : ℕ) → step_at_origin origin step ≡ Unlock u → (v : ℕ) × (step ≡ Unlock v) × (origin v ≡ u)
unlock_from origin (Lock v) u e = absurd (cc)
unlock_from origin (Unlock v) u e = (v, refl, cc)
unlock_from origin (Access a) u e = absurd (cc)

access_from : (origin : ℕ → ℕ) (step : Step) (a : ℕ) → step_at_origin origin step ≡ Access a → step ≡ Access a
access_from origin (Lock v) a e = absurd (cc)
access_from origin (Unlock v) a e = absurd (cc)
access_from origin (Access b) a e = e

-- a lock over the whole is one over the cut
pub lock_cut : (origin : ℕ → ℕ) (plan : List Step) (i u : ℕ) → slice_get (plan_at_origin origin plan) i ≡ Some (Lock u)
    → (v : ℕ) × (slice_get plan i ≡ Some (Lock v)) × (origin v ≡ u)
lock_cut origin plan i u h = grind (arith, get_map_inv, lock_from)

pub unlock_cut : (origin : ℕ → ℕ) (plan : List Step) (i u : ℕ) → slice_get (plan_at_origin origin plan) i ≡ Some (Unlock u)
    → (v : ℕ) × (slice_get plan i ≡ Some (Unlock v)) × (origin v ≡ u)
unlock_cut origin plan i u h = grind (arith, get_map_inv, unlock_from)

access_cut : (origin : ℕ → ℕ) (plan : List Step) (i a : ℕ) → slice_get (plan_at_origin origin plan) i ≡ Some (Access a) → slice_get plan i ≡ Some (Access a)
access_cut origin plan i a h = grind (arith, access_from, get_map_inv)

-- a parent's origin comes from a parent
pub parent_cut : (origin : ℕ → ℕ) (o : Option ℕ) (q : ℕ) → option_map origin o ≡ Some q → (p : ℕ) × (o ≡ Some p) × (origin p ≡ q)
parent_cut origin None q e = absurd (none-some q e)
parent_cut origin (Some p) q e = (p, refl, same_Some (origin p) q e)

-- Sums over the whole's nodes, where the nodes of no origin add nothing

module _ (origin : ℕ → ℕ) (rises : (a b : ℕ) → a < b → origin a < origin b) where
  pub same_origin : (a b : ℕ) → origin a ≡ origin b → a ≡ b
  same_origin a b e = grind (arith, cases_order)

  pub origin_eqb : (a b : ℕ) → eqb (origin a) (origin b) ≡ eqb a b
  origin_eqb a b = grind (arith, eq-eqb, eqb-true, same_origin, same_tests)

  pub origin_less : (a b : ℕ) → origin a < origin b → a < b
  origin_less a b lt = grind (arith, cases_order)

  -- a sum over the numbers below n is that over the origins, where the others add nothing
  pub sum_origins : (n m : ℕ) (f : ℕ → ℕ) → ((k : ℕ) → k < m ↔ origin k < n) → ((u : ℕ) → ((k : ℕ) → origin k ≡ u → ⊥) → f u ≡ 0)
      → sum_below n f ≡ sum_below m (λ k. f (origin k))
  sum_origins n zero f within none = grind (arith, sum_zero)
  sum_origins zero (suc m) f within none = let no : origin m < 0 = (within m).0 (omega arith) in absurd (omega arith)
  sum_origins (suc n) (suc m) f within none =
      let last : origin m < suc n = (within m).0 (omega arith) in
      elim (cases_eq (origin m) n) [
        | inl e ↦
            let here : f (origin m) ≡ f n = ap f e in
            let rest : sum_below n f ≡ sum_below m (λ k. f (origin k)) = sum_origins n m f (λ k. (
              λ lt. let less : origin k < origin m = rises k m lt in omega arith,
              λ lt. origin_less k m (omega arith),
            )) none in
            omega arith
        | inr ne ↦
            let here : f n ≡ 0 = none n (λ k e.
            let le : k < suc m = (within k).1 (omega arith) in
            elim (cases_eq k m) [
              | inl same ↦ ne (ap origin (sym same) ∙ e)
              | inr other ↦ let less : origin k < origin m = rises k m (omega arith) in omega arith
            ]) in
            let rest : sum_below n f ≡ sum_below (suc m) (λ k. f (origin k)) = sum_origins n (suc m) f (λ k. (
              λ lt. let less : origin k < suc n = (within k).0 lt in elim (cases_eq k m) [
                | inl same ↦ let e : origin k ≡ origin m = ap origin same in omega arith
                | inr other ↦ let low : origin k < origin m = rises k m (omega arith) in omega arith
              ],
              λ lt. (within k).1 (omega arith),
            )) none in
            omega arith
      ]

-- Legal plans

module _ (whole cut : Rows) (origin : ℕ → ℕ) (is : IsCut whole cut origin) where
  pub held_at_origin : (plan : List Step) (v i : ℕ) → held (plan_at_origin origin plan) (origin v) i ≡ held plan v i
  held_at_origin plan v i =
      let same : (a b : ℕ) → eqb (origin a) (origin b) ≡ eqb a b = origin_eqb origin is.rises in
      any_same i
      (λ k. locks (origin v) (slice_get (plan_at_origin origin plan) k) && not (any_below i (λ j. ltb k j && unlocks (origin v) (slice_get (plan_at_origin origin plan) j))))
      (λ k. locks v (slice_get plan k) && not (any_below i (λ j. ltb k j && unlocks v (slice_get plan j))))
      (λ k. ap₂ (λ a b. a && not b) (locks_at_origin origin same plan v k)
      (any_same i (λ j. ltb k j && unlocks (origin v) (slice_get (plan_at_origin origin plan) j)) (λ j. ltb k j && unlocks v (slice_get plan j))
      (λ j. ap (λ b. ltb k j && b) (unlocks_at_origin origin same plan v j))))

  -- a node of no origin isn't held
  others_free : (plan : List Step) (u i : ℕ) → ((v : ℕ) → origin v ≡ u → ⊥) → held (plan_at_origin origin plan) u i ≡ false
  others_free plan u i none = held_not (plan_at_origin origin plan) u i
      (λ at. let (v, lock, same) = lock_cut origin plan at.at u at.is_lock in none v same)

  module _ (nodes : List ℕ) (plan : List Step) where
    abbrev moved : List Step
    moved = plan_at_origin origin plan

    later_whole : (i : ℕ) → IsLater plan i → IsLater moved i
    later_whole i later = (later.0, origin later.1, later.2, get_map (step_at_origin origin) plan later.0 (Lock later.1) later.3)

    later_cut : (i : ℕ) → IsLater moved i → IsLater plan i
    later_cut i later = let (v, lock, same) = lock_cut origin plan later.0 later.1 later.3 in (later.0, v, later.2, lock)

    obeys_whole : ObeysTreeProtocol cut plan → ObeysTreeProtocol whole moved
    obeys_whole obeys = record {
      locks_nodes = λ i u h. let (v, lock, same) = lock_cut origin plan i u h in
          subst (λ (n : ℕ). n < length whole) same ((is.within v).0 (obeys.locks_nodes i v lock));
      parents = λ i u h later.
          let (v, lock, same) = lock_cut origin plan i u h in
          let (p, parent, holds) = obeys.parents i v lock (later_cut i later) in
          (origin p, ap (parent_of whole) (sym same) ∙ (is.parents v ∙ ap (option_map origin) parent), held_at_origin plan p i ∙ holds);
      once = λ i j u h k.
          let (v, lock, same) = lock_cut origin plan i u h in
          let (w, other, also) = lock_cut origin plan j u k in
          let e : w ≡ v = same_origin origin is.rises w v (also ∙ sym same) in
          obeys.once i j v lock (other ∙ ap (λ (n : ℕ). Some (Lock n)) e);
      unlocks_held = λ i u h.
          let (v, unlock, same) = unlock_cut origin plan i u h in
          subst (λ (n : ℕ). held moved n i ≡ true) same (held_at_origin plan v i ∙ obeys.unlocks_held i v unlock);
      ends_free = λ u. held_not moved u (length moved) (λ at.
          let (v, lock, same) = lock_cut origin plan at.at u at.is_lock in
          both_ways (held moved u (length moved))
          (subst (λ (n : ℕ). held moved n (length moved) ≡ false) same
          (held_at_origin plan v (length moved) ∙ (ap (held plan v) (map_length (step_at_origin origin) plan) ∙ obeys.ends_free v)))
          (held_from moved u (length moved) at));
    }

    obeys_cut : ObeysTreeProtocol whole moved → ObeysTreeProtocol cut plan
    obeys_cut obeys = record {
      locks_nodes = λ i v h. (is.within v).1 (obeys.locks_nodes i (origin v) (get_map (step_at_origin origin) plan i (Lock v) h));
      parents = λ i v h later.
          let (q, parent, holds) = obeys.parents i (origin v) (get_map (step_at_origin origin) plan i (Lock v) h) (later_whole i later) in
          let (p, own, same) = parent_cut origin (parent_of cut v) q (sym (is.parents v) ∙ parent) in
          (p, own, sym (held_at_origin plan p i) ∙ subst (λ (n : ℕ). held moved n i ≡ true) (sym same) holds);
      once = λ i j v h k. obeys.once i j (origin v) (get_map (step_at_origin origin) plan i (Lock v) h) (get_map (step_at_origin origin) plan j (Lock v) k);
      unlocks_held = λ i v h. sym (held_at_origin plan v i) ∙ obeys.unlocks_held i (origin v) (get_map (step_at_origin origin) plan i (Unlock v) h);
      ends_free = λ v. sym (held_at_origin plan v (length plan))
          ∙ (ap (held moved (origin v)) (sym (map_length (step_at_origin origin) plan)) ∙ obeys.ends_free (origin v));
    }

    performs_whole : Performs nodes plan → Performs (map origin nodes) moved
    performs_whole performs = record {
      in_order = done_at_origin origin plan ∙ (performs.in_order ∙ ap numbers_below (sym (map_length origin nodes)));
      while_held = λ i a u h k.
          let (v, there, same) = get_map_inv origin nodes a u k in
          subst (λ (n : ℕ). held moved n i ≡ true) same (held_at_origin plan v i ∙ performs.while_held i a v (access_cut origin plan i a h) there);
    }

    performs_cut : Performs (map origin nodes) moved → Performs nodes plan
    performs_cut performs = record {
      in_order = sym (done_at_origin origin plan) ∙ (performs.in_order ∙ ap numbers_below (map_length origin nodes));
      while_held = λ i a v h k. sym (held_at_origin plan v i)
          ∙ performs.while_held i a (origin v) (get_map (step_at_origin origin) plan i (Access a) h) (get_map origin nodes a v k);
    }

  -- What it costs

  holding_at_origin : (lengths : List ℕ) (plan : List Step) (v : ℕ) → holding lengths (plan_at_origin origin plan) (origin v) ≡ holding lengths plan v
  holding_at_origin lengths plan v =
      let moved : List Step = plan_at_origin origin plan in
      ap (λ (n : ℕ). sum_below n (λ i. cond (held moved (origin v) i) (slots_of lengths (slice_get moved i)) 0)) (map_length (step_at_origin origin) plan)
      ∙ sum_same (length plan) (λ i. cond (held moved (origin v) i) (slots_of lengths (slice_get moved i)) 0)
      (λ i. cond (held plan v i) (slots_of lengths (slice_get plan i)) 0)
      (λ i lt. ap₂ (λ b (n : ℕ). cond b n 0) (held_at_origin plan v i) (slots_at_origin origin lengths plan i))

  others_cheap : (lengths : List ℕ) (plan : List Step) (u : ℕ) → ((v : ℕ) → origin v ≡ u → ⊥) → holding lengths (plan_at_origin origin plan) u ≡ 0
  others_cheap lengths plan u none = grind (arith, cond-false, others_free, sum_zero)

pub cuts_keep_legal : CutsKeepLegal
cuts_keep_legal whole cut origin is nodes plan = (
  λ legal. record { obeys = obeys_whole whole cut origin is nodes plan legal.obeys; performs = performs_whole whole cut origin is nodes plan legal.performs },
  λ legal. record { obeys = obeys_cut whole cut origin is nodes plan legal.obeys; performs = performs_cut whole cut origin is nodes plan legal.performs },
)

pub cuts_keep_cost : CutsKeepCost
cuts_keep_cost whole cut origin is lengths plan =
    let moved : List Step = plan_at_origin origin plan in
    sum_origins origin is.rises (length whole) (length cut) (λ u. weight_of whole u * holding lengths moved u) is.within
    (λ u none. ap (λ (n : ℕ). weight_of whole u * n) (others_cheap whole cut origin is lengths plan u none) ∙ mul-zero (weight_of whole u))
    ∙ sum_same (length cut) (λ v. weight_of whole (origin v) * holding lengths moved (origin v)) (λ v. weight_of cut v * holding lengths plan v)
    (λ v lt. ap₂ (λ (w h : ℕ). w * h) (is.weights v) (holding_at_origin whole cut origin is lengths plan v))
