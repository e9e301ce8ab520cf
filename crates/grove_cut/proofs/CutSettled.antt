-- A plan over a cut of a tree is settled exactly where it is so over the whole tree: its slots are the same, and it is laid out in the same way.
use Rattle.std.proofs.Common.{◌≡◌, ℕ, zero, suc, ◌+◌, ◌≤◌, Bool, true, false, not, ◌&&◌, ◌||◌, cond, eqb, List, [], ◌∷◌}
use Rattle.std.proofs.Common.{◌++◌, filter, length, map, Some, refl, sym, ◌∙◌, ap, ap₂, subst, arith}
use Rattle.std.specs.List.{slice_get, list_any}
use Rattle.std.proofs.lemmas.Option.{same_Some}
use Rattle.std.proofs.lemmas.List.{map-append}
use Rattle.grove_base.specs.Numbers.{count_below, least_below}
use Rattle.grove_base.proofs.Lists.{get_map, map_length}
use Rattle.grove_tree.specs.Trees.{Rows, parent_of, is_at, IsTree}
use Rattle.grove_access.specs.Lists.{AreNodes}
use Rattle.grove_access.specs.Forced.{IsForcedByTree, forced_nodes}
use Rattle.grove_plan.specs.declared.step.Step.{Step}
use Rattle.grove_plan.specs.declared.step.Step.TheVariants.{Lock, Unlock, Access}
use Rattle.grove_plan.specs.Plans.{locks, unlocks, is_access, IsForced}
use Rattle.grove_plan.specs.Slots.{accesses_before, lock_position, release_position, first_lock_slot, first_release_slot}
use Rattle.grove_plan.proofs.Held.{lock_same, unlock_same}
use Rattle.grove_proof.specs.Forced.{IsForcedList}
use Rattle.grove_proof.proofs.ForcedList.{forced_is_by_tree, forced_lists_same, forced_nodes_are_list}
use Rattle.grove_build.specs.Layout.{has_child_in, is_early, gap_steps, steps_below, laid_out}
use Rattle.grove_build.specs.Settled.{IsSettled}
use Rattle.grove_cut.specs.CutTrees.{IsCut, step_at_origin, plan_at_origin, CutsKeepSettled}
use Rattle.grove_cut.proofs.CutPlans.{same_origin, origin_eqb, locks_at_origin, unlocks_at_origin}
use Rattle.grove_cut.proofs.CutPlans.{accesses_at_origin, lock_cut}
use Rattle.grove_cut.proofs.CutTrees.{cut_is_tree}
use Rattle.grove_cut.proofs.CutFlows.{least_alike, is_at_origin, locked_at_origin, locked_cut, list_at_origin}
use Rattle.grove_cut.proofs.CutLeast.{laid, laid_least, laid_lock, laid_release, cuts_keep_least}

-- counts by tests that agree
count_alike : (n : ℕ) (f g : ℕ → Bool) → ((k : ℕ) → f k ≡ g k) → count_below n f ≡ count_below n g
count_alike zero f g h = refl
count_alike (suc n) f g h = ap₂ (λ (b : Bool) (k : ℕ). cond b 1 0 + k) (h n) (count_alike n f g h)

-- what passes of a mapped list
any_mapped : {A B : Type 0} (f : A → B) (p : B → Bool) (q : A → Bool) (xs : List A) → ((x : A) → p (f x) ≡ q x) → list_any p (map f xs) ≡ list_any q xs
any_mapped f p q [] h = refl
any_mapped f p q (x ∷ xs) h = ap₂ (λ a b. a || b) (h x) (any_mapped f p q xs h)

map_kept : {A B : Type 0} (f : A → B) (b : Bool) (x : A) (xs : List A) → cond b (f x ∷ map f xs) (map f xs) ≡ map f (cond b (x ∷ xs) xs)
map_kept f true x xs = refl
map_kept f false x xs = refl

filter_mapped : {A B : Type 0} (f : A → B) (p : B → Bool) (q : A → Bool) (xs : List A) → ((x : A) → p (f x) ≡ q x) → filter p (map f xs) ≡ map f (filter q xs)
filter_mapped f p q [] h = refl
filter_mapped {A} {B} f p q (x ∷ xs) h =
    ap₂ (λ (b : Bool) (l : List B). cond b (f x ∷ l) l) (h x) (filter_mapped f p q xs h) ∙ map_kept f (q x) x (filter q xs)

locks_mapped : (origin : ℕ → ℕ) (xs : List ℕ) → map Lock (map origin xs) ≡ plan_at_origin origin (map Lock xs)
locks_mapped origin [] = refl
locks_mapped origin (x ∷ xs) = ap (λ (l : List Step). Lock (origin x) ∷ l) (locks_mapped origin xs)

unlocks_mapped : (origin : ℕ → ℕ) (xs : List ℕ) → map Unlock (map origin xs) ≡ plan_at_origin origin (map Unlock xs)
unlocks_mapped origin [] = refl
unlocks_mapped origin (x ∷ xs) = ap (λ (l : List Step). Unlock (origin x) ∷ l) (unlocks_mapped origin xs)

-- Plans that are the same at the origins are the same

same_steps : (origin : ℕ → ℕ) → ((a b : ℕ) → origin a ≡ origin b → a ≡ b) → (one other : Step) → step_at_origin origin one ≡ step_at_origin origin other → one ≡ other
same_steps origin same (Lock v) (Lock w) e = ap Lock (same v w (lock_same (origin v) (origin w) e))
same_steps origin same (Lock v) (Unlock w) e = absurd (cc)
same_steps origin same (Lock v) (Access b) e = absurd (cc)
same_steps origin same (Unlock v) (Lock w) e = absurd (cc)
same_steps origin same (Unlock v) (Unlock w) e = ap Unlock (same v w (unlock_same (origin v) (origin w) e))
same_steps origin same (Unlock v) (Access b) e = absurd (cc)
same_steps origin same (Access a) (Lock w) e = absurd (cc)
same_steps origin same (Access a) (Unlock w) e = absurd (cc)
same_steps origin same (Access a) (Access b) e = e

abbrev rest_of : List Step → List Step
rest_of [] = []
rest_of (step ∷ plan) = plan

same_plans : (origin : ℕ → ℕ) → ((a b : ℕ) → origin a ≡ origin b → a ≡ b) → (one other : List Step) → plan_at_origin origin one ≡ plan_at_origin origin other → one ≡ other
same_plans origin same [] [] e = refl
same_plans origin same [] (y ∷ ys) e = absurd (cc)
same_plans origin same (x ∷ xs) [] e = absurd (cc)
same_plans origin same (x ∷ xs) (y ∷ ys) e =
    grind (arith, same_Some, same_steps, same_plans origin same xs ys (ap rest_of e))

module _ (whole cut : Rows) (origin : ℕ → ℕ) (is : IsCut whole cut origin) where
  -- The slots of a plan's locks and unlocks

  before_same : (plan : List Step) (i : ℕ) → accesses_before (plan_at_origin origin plan) i ≡ accesses_before plan i
  before_same plan i = count_alike i (λ k. is_access (slice_get (plan_at_origin origin plan) k)) (λ k. is_access (slice_get plan k)) (accesses_at_origin origin plan)

  lock_slot_same : (plan : List Step) (v : ℕ) → first_lock_slot (plan_at_origin origin plan) (origin v) ≡ first_lock_slot plan v
  lock_slot_same plan v =
      let moved : List Step = plan_at_origin origin plan in
      let place : lock_position moved (origin v) ≡ lock_position plan v =
      ap (λ (n : ℕ). least_below n (λ i. locks (origin v) (slice_get moved i))) (map_length (step_at_origin origin) plan)
      ∙ least_alike (length plan) (λ i. locks (origin v) (slice_get moved i)) (λ i. locks v (slice_get plan i))
      (locks_at_origin origin (origin_eqb origin is.rises) plan v) in
      before_same plan (lock_position moved (origin v)) ∙ ap (accesses_before plan) place

  release_slot_same : (plan : List Step) (v : ℕ) → first_release_slot (plan_at_origin origin plan) (origin v) ≡ first_release_slot plan v
  release_slot_same plan v =
      let moved : List Step = plan_at_origin origin plan in
      let place : release_position moved (origin v) ≡ release_position plan v =
      ap (λ (n : ℕ). least_below n (λ i. unlocks (origin v) (slice_get moved i))) (map_length (step_at_origin origin) plan)
      ∙ least_alike (length plan) (λ i. unlocks (origin v) (slice_get moved i)) (λ i. unlocks v (slice_get plan i))
      (unlocks_at_origin origin (origin_eqb origin is.rises) plan v) in
      before_same plan (release_position moved (origin v)) ∙ ap (accesses_before plan) place

  -- Laid out plans

  module _ (list : List ℕ) (lock release over_lock over_release : ℕ → ℕ)
      (same_lock : (v : ℕ) → over_lock (origin v) ≡ lock v) (same_release : (v : ℕ) → over_release (origin v) ≡ release v) where
    child_in_same : (gap v : ℕ) → has_child_in whole (map origin list) over_lock gap (origin v) ≡ has_child_in cut list lock gap v
    child_in_same gap v = any_mapped origin (λ child. is_at (origin v) (parent_of whole child) && eqb (over_lock child) gap)
        (λ child. is_at v (parent_of cut child) && eqb (lock child) gap) list
        (λ child. ap₂ (λ (a : Bool) (n : ℕ). a && eqb n gap)
        (ap (is_at (origin v)) (is.parents child) ∙ is_at_origin whole cut origin is v (parent_of cut child)) (same_lock child))

    early_same : (v : ℕ) → is_early whole (map origin list) over_lock over_release (origin v) ≡ is_early cut list lock release v
    early_same v = grind (arith, child_in_same)

    gap_same : (gap : ℕ) → gap_steps whole (map origin list) over_lock over_release gap ≡ plan_at_origin origin (gap_steps cut list lock release gap)
    gap_same gap =
        let first = ap (λ l. map Unlock l) (filter_mapped origin (λ u. eqb (over_release u) gap && is_early whole (map origin list) over_lock over_release u)
        (λ v. eqb (release v) gap && is_early cut list lock release v) list
        (λ v. ap₂ (λ (r : ℕ) b. eqb r gap && b) (same_release v) (early_same v)))
        ∙ unlocks_mapped origin (filter (λ v. eqb (release v) gap && is_early cut list lock release v) list) in
        let second = ap (λ l. map Lock l) (filter_mapped origin (λ u. eqb (over_lock u) gap) (λ v. eqb (lock v) gap) list
        (λ v. ap (λ (n : ℕ). eqb n gap) (same_lock v))) ∙ locks_mapped origin (filter (λ v. eqb (lock v) gap) list) in
        let third = ap (λ l. map Unlock l) (filter_mapped origin (λ u. eqb (over_release u) gap && not (is_early whole (map origin list) over_lock over_release u))
        (λ v. eqb (release v) gap && not (is_early cut list lock release v)) list
        (λ v. ap₂ (λ (r : ℕ) b. eqb r gap && not b) (same_release v) (early_same v)))
        ∙ unlocks_mapped origin (filter (λ v. eqb (release v) gap && not (is_early cut list lock release v)) list) in
        ap₂ (λ a b. a ++ b) first (ap₂ (λ a b. a ++ b) second third
        ∙ sym (map-append (step_at_origin origin) (map Lock (filter (λ v. eqb (lock v) gap) list))
        (map Unlock (filter (λ v. eqb (release v) gap && not (is_early cut list lock release v)) list))))
        ∙ sym (map-append (step_at_origin origin) (map Unlock (filter (λ v. eqb (release v) gap && is_early cut list lock release v) list))
        (map Lock (filter (λ v. eqb (lock v) gap) list)
        ++ map Unlock (filter (λ v. eqb (release v) gap && not (is_early cut list lock release v)) list)))

    steps_same : (m : ℕ) → steps_below whole (map origin list) over_lock over_release m ≡ plan_at_origin origin (steps_below cut list lock release m)
    steps_same zero = refl
    steps_same (suc m) = grind (arith, gap_same, map-append, steps_same m)

    laid_same : (m : ℕ) → laid_out whole (map origin list) over_lock over_release m ≡ plan_at_origin origin (laid_out cut list lock release m)
    laid_same m = ap₂ (λ a b. a ++ b) (steps_same m) (gap_same m)
        ∙ sym (map-append (step_at_origin origin) (steps_below cut list lock release m) (gap_steps cut list lock release m))

  -- a plan's own slots lay out the same plan over both
  own_laid_same : (nodes list : List ℕ) (plan : List Step)
      → laid_out whole (map origin list) (first_lock_slot (plan_at_origin origin plan)) (first_release_slot (plan_at_origin origin plan)) (length (map origin nodes))
      ≡ plan_at_origin origin (laid_out cut list (first_lock_slot plan) (first_release_slot plan) (length nodes))
  own_laid_same nodes list plan = grind (arith, laid_same, lock_slot_same, map_length, release_slot_same)

  -- Settled plans

  module _ (tree : IsTree whole) (nodes lengths : List ℕ) (plan : List Step) (fits : AreNodes cut nodes) where
    abbrev moved : List Step
    moved = plan_at_origin origin plan

    is_tree : IsTree cut
    is_tree = cut_is_tree whole cut origin is tree

    by_tree : (v : ℕ) → IsForced cut nodes v → IsForcedByTree cut nodes v
    by_tree v forced = (forced_is_by_tree cut nodes v is_tree fits).0 forced

    settled_at_origin : IsSettled cut nodes lengths plan → IsSettled whole (map origin nodes) lengths moved
    settled_at_origin h = record {
      least = (cuts_keep_least whole cut origin tree is nodes lengths plan fits).0 h.least;
      locks = λ u. (
        λ locked.
            let (v, lock, same) = lock_cut origin plan locked.0 u locked.1 in
            subst (λ (n : ℕ). IsForced whole (map origin nodes) n) same
            (locked_at_origin whole cut origin is nodes tree fits v ((h.locks v).0 (locked.0, lock))),
        λ forced.
            let (v, by, same) = locked_cut whole cut origin is nodes tree fits u forced in
            let lock = (h.locks v).1 by in
            (lock.0, get_map (step_at_origin origin) plan lock.0 (Lock v) lock.1 ∙ ap (λ (n : ℕ). Some (Lock n)) same),
      );
      lock_latest = λ other o u forced.
          let (v, by, same) = locked_cut whole cut origin is nodes tree fits u forced in
          let q : List Step = laid whole cut origin tree is nodes fits other o.legal in
          let a : first_lock_slot q v ≤ first_lock_slot plan v = h.lock_latest q (laid_least whole cut origin tree is nodes fits lengths other o) v by in
          let b : first_lock_slot q v ≡ first_lock_slot other (origin v) = laid_lock whole cut origin tree is nodes fits other o.legal v (by_tree v by) in
          let c : first_lock_slot moved (origin v) ≡ first_lock_slot plan v = lock_slot_same plan v in
          subst (λ (n : ℕ). first_lock_slot other n ≤ first_lock_slot moved n) same (omega arith);
      release_latest = λ other o u forced.
          let (v, by, same) = locked_cut whole cut origin is nodes tree fits u forced in
          let q : List Step = laid whole cut origin tree is nodes fits other o.legal in
          let a : first_release_slot q v ≤ first_release_slot plan v = h.release_latest q (laid_least whole cut origin tree is nodes fits lengths other o) v by in
          let b : first_release_slot q v ≡ first_release_slot other (origin v) = laid_release whole cut origin tree is nodes fits other o.legal v (by_tree v by) in
          let c : first_release_slot moved (origin v) ≡ first_release_slot plan v = release_slot_same plan v in
          subst (λ (n : ℕ). first_release_slot other n ≤ first_release_slot moved n) same (omega arith);
      list = map origin h.list;
      is_forced_list = list_at_origin whole cut origin is nodes tree fits h.list h.is_forced_list;
      laid = ap (plan_at_origin origin) h.laid ∙ sym (own_laid_same nodes h.list plan);
    }

    settled_cut : IsSettled whole (map origin nodes) lengths moved → IsSettled cut nodes lengths plan
    settled_cut h =
        let forced_list : IsForcedList cut nodes (forced_nodes cut nodes) = forced_nodes_are_list cut nodes is_tree fits in
        let same_list : h.list ≡ map origin (forced_nodes cut nodes) = forced_lists_same whole (map origin nodes) h.list (map origin (forced_nodes cut nodes))
        h.is_forced_list (list_at_origin whole cut origin is nodes tree fits (forced_nodes cut nodes) forced_list) in
        record {
          least = (cuts_keep_least whole cut origin tree is nodes lengths plan fits).1 h.least;
          locks = λ v. (
            λ locked.
                let forced : IsForced whole (map origin nodes) (origin v) =
                (h.locks (origin v)).0 (locked.0, get_map (step_at_origin origin) plan locked.0 (Lock v) locked.1) in
                let (w, by, same) = locked_cut whole cut origin is nodes tree fits (origin v) forced in
                subst (λ (n : ℕ). IsForced cut nodes n) (same_origin origin is.rises w v same) by,
            λ forced.
                let locked = (h.locks (origin v)).1 (locked_at_origin whole cut origin is nodes tree fits v forced) in
                let (w, lock, same) = lock_cut origin plan locked.0 (origin v) locked.1 in
                (locked.0, lock ∙ ap (λ (n : ℕ). Some (Lock n)) (same_origin origin is.rises w v same)),
          );
          lock_latest = λ other o v forced.
              let a : first_lock_slot (plan_at_origin origin other) (origin v) ≤ first_lock_slot moved (origin v) =
              h.lock_latest (plan_at_origin origin other) ((cuts_keep_least whole cut origin tree is nodes lengths other fits).0 o) (origin v)
              (locked_at_origin whole cut origin is nodes tree fits v forced) in
              omega (arith, lock_slot_same other v, lock_slot_same plan v);
          release_latest = λ other o v forced.
              let a : first_release_slot (plan_at_origin origin other) (origin v) ≤ first_release_slot moved (origin v) =
              h.release_latest (plan_at_origin origin other) ((cuts_keep_least whole cut origin tree is nodes lengths other fits).0 o) (origin v)
              (locked_at_origin whole cut origin is nodes tree fits v forced) in
              omega (arith, release_slot_same other v, release_slot_same plan v);
          list = forced_nodes cut nodes;
          is_forced_list = forced_list;
          laid = same_plans origin (same_origin origin is.rises) plan
              (laid_out cut (forced_nodes cut nodes) (first_lock_slot plan) (first_release_slot plan) (length nodes))
              (h.laid
              ∙ (ap (λ (l : List ℕ). laid_out whole l (first_lock_slot moved) (first_release_slot moved) (length (map origin nodes))) same_list
              ∙ own_laid_same nodes (forced_nodes cut nodes) plan));
        }

pub cuts_keep_settled : CutsKeepSettled
cuts_keep_settled whole cut origin tree is nodes lengths plan fits =
    (settled_at_origin whole cut origin is tree nodes lengths plan fits, settled_cut whole cut origin is tree nodes lengths plan fits)
