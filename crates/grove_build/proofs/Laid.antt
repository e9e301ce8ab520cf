-- What stands in a laid out plan, and in which order: its steps rise by a key made of gap, group and node.
use Rattle.std.proofs.Common.{◌≡◌, ℕ, zero, suc, ◌+◌, ◌*◌, ◌<◌, ◌≤◌, Bool, true, false, not, ◌&&◌, List, [], ◌∷◌, ◌++◌}
use Rattle.std.proofs.Common.{map, filter, refl, ◌∙◌, ap, subst, inl, inr, arith, eqb, eqb-true, eq-eqb}
use Rattle.std.proofs.Common.{mul-le-mul_right, suc-mul, append-nil}
use Rattle.std.proofs.lemmas.Option.{none-some, same_Some}
use Rattle.std.proofs.lemmas.Bool.{cases_Bool, cases_eq, and_parts, and_from, not-true, not_from_false}
use Rattle.grove_tree.specs.Trees.{Rows}
use Rattle.grove_base.specs.Numbers.{numbers_below}
use Rattle.grove_plan.specs.declared.step.Step.{Step}
use Rattle.grove_plan.specs.declared.step.Step.TheVariants.{Lock, Unlock, Access}
use Rattle.grove_plan.specs.Plans.{accesses_of}
use Rattle.grove_build.specs.Layout.{is_early, gap_steps, steps_below, laid_out}
use Rattle.grove_build.proofs.Runs.{Has, has_left, has_right, has_either, has_map, has_map_from, has_filter, has_filter_from, Rises, rises_lower, rises_higher, rises_append, rises_mapped, itself}
use Rattle.grove_plan.proofs.Held.{accesses_append}

-- a number's place within a gap: early unlocks, then locks, then the other unlocks
abbrev pub rank_of : Bool → ℕ → ℕ → ℕ
rank_of true n v = v
rank_of false n v = n + n + v

-- the key of a step, where n is above each node and w is one more than three times n
abbrev pub step_key : (ℕ → Bool) → (ℕ → ℕ) → (ℕ → ℕ) → ℕ → ℕ → Step → ℕ
step_key early lock release n w (Lock v) = lock v * w + (n + v)
step_key early lock release n w (Unlock v) = release v * w + rank_of (early v) n v
step_key early lock release n w (Access g) = g * w + (n + n + n)

-- what may stand in a plan laid out from a list
abbrev pub Stands : List ℕ → ℕ → Step → Type 0
Stands span m (Lock v) = Has span v
Stands span m (Unlock v) = Has span v
Stands span m (Access g) = g < m

-- in an earlier gap every key is less
pub gap_less : (w g h r s : ℕ) → g < h → r < w → g * w + r < h * w + s
gap_less w g h r s lt small = omega (arith, mul-le-mul_right w lt, step w g)
  where
    step : (w g : ℕ) → suc g * w ≡ w + g * w
    step w g = omega (arith, suc-mul g w)

pub gap_le : (w g h r s : ℕ) → g ≤ h → r ≤ s → g * w + r ≤ h * w + s
gap_le w g h r s le small = let lw : g * w ≤ h * w = mul-le-mul_right w le in omega arith

no_accesses : (xs ys : List Step) → accesses_of xs ≡ [] → accesses_of ys ≡ [] → accesses_of (xs ++ ys) ≡ []
no_accesses xs ys a b = accesses_append xs ys ∙ (ap (λ l. l ++ accesses_of ys) a ∙ b)

no_accesses_lock : (xs : List ℕ) → accesses_of (map Lock xs) ≡ []
no_accesses_lock [] = refl
no_accesses_lock (x ∷ xs) = no_accesses_lock xs

no_accesses_unlock : (xs : List ℕ) → accesses_of (map Unlock xs) ≡ []
no_accesses_unlock [] = refl
no_accesses_unlock (x ∷ xs) = no_accesses_unlock xs

module _ (rows : Rows) (span : List ℕ) (lock release : ℕ → ℕ) where
  abbrev pub early : ℕ → Bool
  early v = is_early rows span lock release v

  -- the three groups of a gap
  abbrev pub earlies : ℕ → List Step
  earlies g = map Unlock (filter (λ node. eqb (release node) g && early node) span)

  abbrev pub locked : ℕ → List Step
  locked g = map Lock (filter (λ node. eqb (lock node) g) span)

  abbrev pub lates : ℕ → List Step
  lates g = map Unlock (filter (λ node. eqb (release node) g && not (early node)) span)

  abbrev pub gap : ℕ → List Step
  gap g = gap_steps rows span lock release g

  abbrev pub below : ℕ → List Step
  below m = steps_below rows span lock release m

  abbrev pub laid : ℕ → List Step
  laid m = laid_out rows span lock release m

  -- What stands in a gap.

  pub gap_lock : (v : ℕ) → Has span v → Has (gap (lock v)) (Lock v)
  gap_lock v h =
      has_right _ _ (Lock v) (has_left _ _ (Lock v) (has_map Lock _ v
      (has_filter (λ u. eqb (lock u) (lock v)) span v h (eq-eqb (lock v) (lock v) refl))))

  gap_unlock_early : (v : ℕ) → Has span v → early v ≡ true → Has (gap (release v)) (Unlock v)
  gap_unlock_early v h e =
      has_left _ _ (Unlock v) (has_map Unlock _ v (has_filter (λ u. eqb (release u) (release v) && early u) span v h
      (and_from (eqb (release v) (release v)) (early v) (eq-eqb (release v) (release v) refl) e)))

  gap_unlock_late : (v : ℕ) → Has span v → early v ≡ false → Has (gap (release v)) (Unlock v)
  gap_unlock_late v h e =
      has_right (earlies (release v)) (locked (release v) ++ lates (release v)) (Unlock v)
      (has_right (locked (release v)) (lates (release v)) (Unlock v)
      (has_map Unlock _ v (has_filter (λ u. eqb (release u) (release v) && not (early u)) span v h
      (and_from (eqb (release v) (release v)) (not (early v)) (eq-eqb (release v) (release v) refl)
      (not_from_false (early v) e)))))

  pub gap_unlock : (v : ℕ) → Has span v → Has (gap (release v)) (Unlock v)
  gap_unlock v h = elim (cases_Bool (early v)) [ inl e ↦ gap_unlock_early v h e | inr e ↦ gap_unlock_late v h e ]

  mapped_stands : (m : ℕ) (p : ℕ → Bool) (f : ℕ → Step) (s : Step) → ((v : ℕ) → Has span v → Stands span m (f v))
      → Has (map f (filter p span)) s → Stands span m s
  mapped_stands m p f s each h =
      let r = has_map_from f (filter p span) s h in
      let k = has_filter_from p span r.0 r.1 in
      grind (arith)

  pub gap_stands : (m g : ℕ) (s : Step) → Has (gap g) s → Stands span m s
  gap_stands m g s h = elim (has_either _ _ s h) [
    | inl a ↦ mapped_stands m (λ node. eqb (release node) g && early node) Unlock s (λ v x. x) a
    | inr b ↦ elim (has_either _ _ s b) [
      | inl c ↦ mapped_stands m (λ node. eqb (lock node) g) Lock s (λ v x. x) c
      | inr d ↦ mapped_stands m (λ node. eqb (release node) g && not (early node)) Unlock s (λ v x. x) d
    ]
  ]

  -- What stands in the whole.

  pub below_has : (m g : ℕ) (s : Step) → g < m → Has (gap g) s → Has (below m) s
  below_has zero g s lt h = absurd (omega arith)
  below_has (suc m) g s lt h = elim (cases_eq g m) [
    | inl e ↦ grind (arith, Has, has_left, has_right)
    | inr ne ↦ has_left (below m) _ s (below_has m g s (omega arith) h)
  ]

  pub below_access : (m g : ℕ) → g < m → Has (below m) (Access g)
  below_access zero g lt = absurd (omega arith)
  below_access (suc m) g lt = elim (cases_eq g m) [
    | inl e ↦ grind (arith, Has, has_right)
    | inr ne ↦ has_left (below m) _ (Access g) (below_access m g (omega arith))
  ]

  pub laid_has : (m g : ℕ) (s : Step) → g ≤ m → Has (gap g) s → Has (laid m) s
  laid_has m g s le h = elim (cases_eq g m) [
    | inl e ↦ let P : ℕ → Type 0 = λ k. Has (gap k) s in has_right (below m) (gap m) s (subst P e h)
    | inr ne ↦ has_left (below m) (gap m) s (below_has m g s (omega arith) h)
  ]

  pub laid_lock : (m v : ℕ) → Has span v → lock v ≤ m → Has (laid m) (Lock v)
  laid_lock m v h le = laid_has m (lock v) (Lock v) le (gap_lock v h)

  pub laid_unlock : (m v : ℕ) → Has span v → release v ≤ m → Has (laid m) (Unlock v)
  laid_unlock m v h le = laid_has m (release v) (Unlock v) le (gap_unlock v h)

  pub laid_access : (m g : ℕ) → g < m → Has (laid m) (Access g)
  laid_access m g lt = has_left (below m) (gap m) (Access g) (below_access m g lt)

  stands_more : (m : ℕ) (s : Step) → Stands span m s → Stands span (suc m) s
  stands_more m (Lock v) h = h
  stands_more m (Unlock v) h = h
  stands_more m (Access g) h = omega arith

  access_stands : (m : ℕ) (s : Step) → Has (Access m ∷ []) s → Stands span (suc m) s
  access_stands m s (zero, h) = grind (arith, same_Some)
  access_stands m s (suc k, h) = absurd (none-some s h)

  pub below_stands : (m : ℕ) (s : Step) → Has (below m) s → Stands span m s
  below_stands zero s (k, h) = absurd (none-some s h)
  below_stands (suc m) s h = elim (has_either (below m) _ s h) [
    | inl a ↦ stands_more m s (below_stands m s a)
    | inr b ↦ elim (has_either (gap m) _ s b) [
      | inl c ↦ gap_stands (suc m) m s c
      | inr d ↦ access_stands m s d
    ]
  ]

  pub laid_stands : (m : ℕ) (s : Step) → Has (laid m) s → Stands span m s
  laid_stands m s h = elim (has_either (below m) (gap m) s h)
      [ inl a ↦ below_stands m s a | inr b ↦ gap_stands m m s b ]

  -- The accesses.

  gap_accesses : (g : ℕ) → accesses_of (gap g) ≡ []
  gap_accesses g = grind (arith, no_accesses, no_accesses_lock, no_accesses_unlock)

  below_accesses : (m : ℕ) → accesses_of (below m) ≡ numbers_below m
  below_accesses zero = refl
  below_accesses (suc m) = grind (arith, accesses_append, gap_accesses, below_accesses m)

  pub laid_accesses : (m : ℕ) → accesses_of (laid m) ≡ numbers_below m
  laid_accesses m = grind (arith, accesses_append, append-nil, below_accesses, gap_accesses)

  -- The order.

  module _ (n w : ℕ) (wide : w ≡ suc (n + (n + n))) (rising : Rises itself 0 n span) where
    abbrev pub key : Step → ℕ
    key s = step_key early lock release n w s

    pub early_key : (v : ℕ) → early v ≡ true → key (Unlock v) ≡ release v * w + v
    early_key v e = ap (λ b. release v * w + rank_of b n v) e

    pub late_key : (v : ℕ) → early v ≡ false → key (Unlock v) ≡ release v * w + (n + n + v)
    late_key v e = ap (λ b. release v * w + rank_of b n v) e

    at_early : (g v : ℕ) → (eqb (release v) g && early v) ≡ true → key (Unlock v) ≡ g * w + v
    at_early g v h = grind (arith, and_parts, early_key, eqb-true)

    at_lock : (g v : ℕ) → eqb (lock v) g ≡ true → key (Lock v) ≡ (g * w + n) + v
    at_lock g v h = grind (arith, eqb-true)

    at_late : (g v : ℕ) → (eqb (release v) g && not (early v)) ≡ true → key (Unlock v) ≡ (g * w + (n + n)) + v
    at_late g v h = grind (arith, and_parts, eqb-true, late_key, not-true)

    gap_rises : (g : ℕ) → Rises key (g * w) (g * w + (n + n + n)) (gap g)
    gap_rises g =
        rises_append key (g * w) (g * w + n) (g * w + (n + n + n)) _ _
        (rises_lower key (g * w + 0) (g * w) (g * w + n) _ (omega arith)
        (rises_mapped key Unlock (λ v. eqb (release v) g && early v) (g * w) 0 n span (at_early g) rising))
        (rises_append key (g * w + n) (g * w + (n + n)) (g * w + (n + n + n)) _ _
        (rises_lower key ((g * w + n) + 0) (g * w + n) (g * w + (n + n)) _ (omega arith)
        (rises_higher key ((g * w + n) + 0) ((g * w + n) + n) (g * w + (n + n)) _ (omega arith)
        (rises_mapped key Lock (λ v. eqb (lock v) g) (g * w + n) 0 n span (at_lock g) rising)))
        (rises_lower key ((g * w + (n + n)) + 0) (g * w + (n + n)) (g * w + (n + n + n)) _ (omega arith)
        (rises_higher key ((g * w + (n + n)) + 0) ((g * w + (n + n)) + n) (g * w + (n + n + n)) _ (omega arith)
        (rises_mapped key Unlock (λ v. eqb (release v) g && not (early v)) (g * w + (n + n)) 0 n span (at_late g)
        rising))))

    below_rises : (m : ℕ) → Rises key 0 (m * w) (below m)
    below_rises zero = omega arith
    below_rises (suc m) =
        rises_append key 0 (m * w) (suc m * w) (below m) _ (below_rises m)
        (rises_append key (m * w) (m * w + (n + n + n)) (suc m * w) (gap m) (Access m ∷ []) (gap_rises m)
        (omega arith, omega (arith, suc-mul m w)))

    pub laid_rises : (m : ℕ) → Rises key 0 (m * w + (n + n + n)) (laid m)
    laid_rises m = rises_append key 0 (m * w) (m * w + (n + n + n)) (below m) (gap m) (below_rises m) (gap_rises m)
