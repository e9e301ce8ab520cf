-- No other node is forced: the plan that locks just the nodes that the tree forces, does all accesses and unlocks them all is legal.
use Rattle.std.proofs.Common.{◌≡◌, ℕ, ◌+◌, ◌<◌, ◌≤◌, true, ◌⊎◌, List, [], ◌∷◌, ◌++◌, length, Some, refl, ◌∙◌, ap, inl}
use Rattle.std.proofs.Common.{inr, arith, append-nil}
use Rattle.std.specs.Prelude.{map}
use Rattle.std.specs.List.{slice_get}
use Rattle.std.proofs.lemmas.Option.{same_Some, slice_get_within}
use Rattle.std.proofs.lemmas.Bool.{cases_order}
use Rattle.grove_base.specs.Numbers.{numbers_below}
use Rattle.grove_tree.specs.Trees.{Rows, IsTree}
use Rattle.grove_base.proofs.Counting.{numbers_got, numbers_length, passing_got, passing_rises, passing_once}
use Rattle.grove_base.proofs.Lists.{get_append_left, get_append_at, get_append_cases, get_map, get_map_inv, map_length}
use Rattle.grove_tree.proofs.Above.{above_le, parent_lt}
use Rattle.grove_access.specs.Lists.{AreNodes}
use Rattle.grove_access.specs.Forced.{IsForcedByTree, is_forced, forced_nodes}
use Rattle.grove_access.proofs.ForcedByTree.{forced_step, forced_listed, listed_forced, accessed_is_forced}
use Rattle.grove_plan.specs.declared.step.Step.{Step}
use Rattle.grove_plan.specs.declared.step.Step.TheVariants.{Lock, Unlock, Access}
use Rattle.grove_plan.specs.Plans.{held, accesses_of, IsLegal, IsLockedBy, IsForced, ObeysTreeProtocol, Performs}
use Rattle.grove_plan.proofs.Held.{held_from, held_not, lock_same, unlock_same, access_same, accesses_append}

-- the plan that locks a list of nodes, does m accesses and unlocks the nodes
abbrev pub wide_plan : List ℕ → ℕ → List Step
wide_plan span m = map (λ (v : ℕ). Lock v) span ++ (map (λ (a : ℕ). Access a) (numbers_below m) ++ map (λ (v : ℕ). Unlock v) span)

-- a step of the plan is of one of its three parts
wide_cases : (span : List ℕ) (m i : ℕ) (step : Step) → slice_get (wide_plan span m) i ≡ Some step
    → ((v : ℕ) × (slice_get span i ≡ Some v) × (Lock v ≡ step))
    ⊎ (((a : ℕ) × (a < m) × (i ≡ length span + a) × (Access a ≡ step))
    ⊎ ((j : ℕ) × (v : ℕ) × (slice_get span j ≡ Some v) × (i ≡ length span + (m + j)) × (Unlock v ≡ step)))
wide_cases span m i step h = grind (arith, get_append_cases, get_map_inv, map_length, numbers_got, numbers_length)

-- what stands where
lock_position : (span : List ℕ) (m i v : ℕ) → slice_get (wide_plan span m) i ≡ Some (Lock v) → slice_get span i ≡ Some v
lock_position span m i v h = grind (arith, lock_same, wide_cases)

access_place : (span : List ℕ) (m i a : ℕ) → slice_get (wide_plan span m) i ≡ Some (Access a) → (a < m) × (i ≡ length span + a)
access_place span m i a h = grind (arith, access_same, wide_cases)

unlock_place : (span : List ℕ) (m i v : ℕ) → slice_get (wide_plan span m) i ≡ Some (Unlock v) → (j : ℕ) × (slice_get span j ≡ Some v) × (i ≡ length span + (m + j))
unlock_place span m i v h = grind (arith, unlock_same, wide_cases)

lock_there : (span : List ℕ) (m i v : ℕ) → slice_get span i ≡ Some v → slice_get (wide_plan span m) i ≡ Some (Lock v)
lock_there span m i v h = grind (arith, get_append_left, get_map, slice_get_within)

unlock_there : (span : List ℕ) (m j v : ℕ) → slice_get span j ≡ Some v → slice_get (wide_plan span m) (length span + (m + j)) ≡ Some (Unlock v)
unlock_there span m j v h =
    let size : length (map (λ (w : ℕ). Lock w) span) ≡ length span = map_length (λ (w : ℕ). Lock w) span in
    let middle : length (map (λ (a : ℕ). Access a) (numbers_below m)) ≡ m = map_length (λ (a : ℕ). Access a) (numbers_below m) ∙ numbers_length m in
    grind (arith, get_append_at, get_map)

-- a node listed once is held from its lock to its unlock
wide_held : (span : List ℕ) (m i v place : ℕ) → ((j k w : ℕ) → slice_get span j ≡ Some w → slice_get span k ≡ Some w → j ≡ k)
    → slice_get span i ≡ Some v → i < place → place ≤ length span + (m + i) → held (wide_plan span m) v place ≡ true
wide_held span m i v place once h above below = grind (arith, held_from, lock_there, unlock_place)

accesses_locks : (span : List ℕ) → accesses_of (map (λ (v : ℕ). Lock v) span) ≡ []
accesses_locks [] = refl
accesses_locks (v ∷ span) = accesses_locks span

accesses_unlocks : (span : List ℕ) → accesses_of (map (λ (v : ℕ). Unlock v) span) ≡ []
accesses_unlocks [] = refl
accesses_unlocks (v ∷ span) = accesses_unlocks span

accesses_all : (xs : List ℕ) → accesses_of (map (λ (a : ℕ). Access a) xs) ≡ xs
accesses_all [] = refl
accesses_all (x ∷ xs) = ap (λ (zs : List ℕ). x ∷ zs) (accesses_all xs)

accesses_wide : (span : List ℕ) (m : ℕ) → accesses_of (wide_plan span m) ≡ numbers_below m
accesses_wide span m =
    accesses_append (map (λ (v : ℕ). Lock v) span) (map (λ (a : ℕ). Access a) (numbers_below m) ++ map (λ (v : ℕ). Unlock v) span)
    ∙ (ap (λ (zs : List ℕ). zs ++ accesses_of (map (λ (a : ℕ). Access a) (numbers_below m) ++ map (λ (v : ℕ). Unlock v) span)) (accesses_locks span)
    ∙ (accesses_append (map (λ (a : ℕ). Access a) (numbers_below m)) (map (λ (v : ℕ). Unlock v) span)
    ∙ (ap (λ (zs : List ℕ). zs ++ accesses_of (map (λ (v : ℕ). Unlock v) span)) (accesses_all (numbers_below m))
    ∙ (ap (λ (zs : List ℕ). numbers_below m ++ zs) (accesses_unlocks span) ∙ append-nil (numbers_below m)))))

-- the wide plan of the forced nodes obeys the tree protocol
wide_obeys : (rows : Rows) (nodes : List ℕ) → IsTree rows → AreNodes rows nodes → ObeysTreeProtocol rows (wide_plan (forced_nodes rows nodes) (length nodes))
wide_obeys rows nodes tree fits =
    let span : List ℕ = forced_nodes rows nodes in
    let m : ℕ = length nodes in
    record {
      locks_nodes = λ i v h. (passing_got (length rows) (is_forced rows nodes) i v (lock_position span m i v h)).0;
      parents = λ i v h later.
          let here : slice_get span i ≡ Some v = lock_position span m i v h in
          let first : slice_get span later.0 ≡ Some later.1 = lock_position span m later.0 later.1 later.3 in
          let rises : later.1 < v = passing_rises (length rows) (is_forced rows nodes) later.0 i later.1 v later.2 first here in
          elim (forced_step rows nodes v tree fits (listed_forced rows nodes i v tree fits here)) [
            | inl common ↦
                let over : v ≤ later.1 = above_le rows tree v later.1 ((listed_forced rows nodes later.0 later.1 tree fits first).below v common) in
                absurd (omega arith)
            | inr under ↦
                let less : under.0 < v = parent_lt rows tree v under.0 under.1 in
                let at : (k : ℕ) × (slice_get span k ≡ Some under.0) = forced_listed rows nodes under.0 tree fits under.2 in
                grind (arith, cases_order, passing_once, passing_rises, same_Some, slice_get_within, wide_held)
          ];
      once = λ i j v h k. passing_once (length rows) (is_forced rows nodes) i j v (lock_position span m i v h) (lock_position span m j v k);
      unlocks_held = grind (arith, passing_once, slice_get_within, unlock_place, wide_held);
      ends_free = λ v. held_not (wide_plan span m) v (length (wide_plan span m)) (λ at.
          let here : slice_get span at.at ≡ Some v = lock_position span m at.at v at.is_lock in
          let within : at.at < length span = slice_get_within span at.at v here in
          at.kept (length span + (m + at.at)) (omega arith) (slice_get_within (wide_plan span m) (length span + (m + at.at)) (Unlock v) (unlock_there span m at.at v here)) (unlock_there span m at.at v here));
    }

-- and does the list's accesses
wide_performs : (rows : Rows) (nodes : List ℕ) → IsTree rows → AreNodes rows nodes → Performs nodes (wide_plan (forced_nodes rows nodes) (length nodes))
wide_performs rows nodes tree fits =
    let span : List ℕ = forced_nodes rows nodes in
    let m : ℕ = length nodes in
    record {
      in_order = accesses_wide span m;
      while_held = λ i access v h names.
          let place : (access < m) × (i ≡ length span + access) = access_place span m i access h in
          let lt : access < m = place.0 in
          let e : i ≡ length span + access = place.1 in
          let at : (k : ℕ) × (slice_get span k ≡ Some v) = forced_listed rows nodes v tree fits (accessed_is_forced rows nodes access v names) in
          grind (arith, passing_once, slice_get_within, wide_held);
    }

-- so the wide plan of the forced nodes is legal
pub wide_is_legal : (rows : Rows) (nodes : List ℕ) → IsTree rows → AreNodes rows nodes → IsLegal rows nodes (wide_plan (forced_nodes rows nodes) (length nodes))
wide_is_legal rows nodes tree fits = record { obeys = wide_obeys rows nodes tree fits; performs = wide_performs rows nodes tree fits }

-- a node that every legal plan locks is forced by the tree
pub forced_is_by_tree_alone : (rows : Rows) (nodes : List ℕ) (node : ℕ) → IsTree rows → AreNodes rows nodes → IsForced rows nodes node → IsForcedByTree rows nodes node
forced_is_by_tree_alone rows nodes node tree fits forced =
    let locked : IsLockedBy (wide_plan (forced_nodes rows nodes) (length nodes)) node = forced (wide_plan (forced_nodes rows nodes) (length nodes)) (wide_is_legal rows nodes tree fits) in
    listed_forced rows nodes locked.0 node tree fits (lock_position (forced_nodes rows nodes) (length nodes) locked.0 node locked.1)
