-- Plans laid out from numbers that agree on the list are the same.
use Rattle.std.proofs.Common.{◌≡◌, ℕ, zero, suc, Bool, not, ◌&&◌, List, [], ◌∷◌, ◌++◌, map, filter, refl, ◌∙◌, ap, ap₂}
use Rattle.std.proofs.Common.{cond, eqb, ◌||◌, arith}
use Rattle.std.specs.List.{list_any}
use Rattle.grove_tree.specs.Trees.{Rows}
use Rattle.grove_plan.specs.declared.step.Step.TheVariants.{Lock, Unlock, Access}
use Rattle.grove_build.specs.Layout.{is_early, gap_steps, steps_below, laid_out}
use Rattle.grove_build.proofs.Runs.{Has}

filter_alike : {A : Type 0} (p q : A → Bool) (xs : List A) → ((x : A) → Has xs x → p x ≡ q x)
    → filter p xs ≡ filter q xs
filter_alike p q [] h = refl
filter_alike p q (x ∷ xs) h =
    let e : p x ≡ q x = h x (0, refl) in
    let f : filter p xs ≡ filter q xs = filter_alike p q xs (λ y k. h y (suc k.0, k.1)) in
    ap (λ b. cond b (x ∷ filter p xs) (filter p xs)) e ∙ ap (λ l. cond (q x) (x ∷ l) l) f

any_alike : {A : Type 0} (p q : A → Bool) (xs : List A) → ((x : A) → Has xs x → p x ≡ q x)
    → list_any p xs ≡ list_any q xs
any_alike p q [] h = refl
any_alike p q (x ∷ xs) h = ap₂ (λ a b. a || b) (h x (0, refl)) (any_alike p q xs (λ y k. h y (suc k.0, k.1)))

module _ (rows : Rows) (span : List ℕ) (lock release lock2 release2 : ℕ → ℕ)
    (same_lock : (v : ℕ) → Has span v → lock v ≡ lock2 v)
    (same_release : (v : ℕ) → Has span v → release v ≡ release2 v) where
  early_alike : (v : ℕ) → Has span v → is_early rows span lock release v ≡ is_early rows span lock2 release2 v
  early_alike v h = grind (arith, any_alike)

  gap_alike : (g : ℕ) → gap_steps rows span lock release g ≡ gap_steps rows span lock2 release2 g
  gap_alike g =
      ap₂ (λ a b. a ++ b)
      (ap (λ l. map Unlock l) (filter_alike (λ v. eqb (release v) g && is_early rows span lock release v)
      (λ v. eqb (release2 v) g && is_early rows span lock2 release2 v) span
      (λ v h. ap₂ (λ (r : ℕ) b. eqb r g && b) (same_release v h) (early_alike v h))))
      (ap₂ (λ a b. a ++ b)
      (ap (λ l. map Lock l) (filter_alike (λ v. eqb (lock v) g) (λ v. eqb (lock2 v) g) span
      (λ v h. ap (λ (l : ℕ). eqb l g) (same_lock v h))))
      (ap (λ l. map Unlock l) (filter_alike (λ v. eqb (release v) g && not (is_early rows span lock release v))
      (λ v. eqb (release2 v) g && not (is_early rows span lock2 release2 v)) span
      (λ v h. ap₂ (λ (r : ℕ) b. eqb r g && not b) (same_release v h) (early_alike v h)))))

  steps_alike : (m : ℕ) → steps_below rows span lock release m ≡ steps_below rows span lock2 release2 m
  steps_alike zero = refl
  steps_alike (suc m) = ap₂ (λ a b. a ++ (b ++ Access m ∷ [])) (steps_alike m) (gap_alike m)

  pub laid_alike : (m : ℕ) → laid_out rows span lock release m ≡ laid_out rows span lock2 release2 m
  laid_alike m = ap₂ (λ a b. a ++ b) (steps_alike m) (gap_alike m)
