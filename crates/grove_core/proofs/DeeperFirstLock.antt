-- Two jobs that locked a node locked the deeper one of their first nodes, in the same order.
use Rattle.std.proofs.Common.{◌≡◌, ◌≢◌, ℕ, zero, suc, ◌<◌, ◌≤◌, List, Some, sym, ◌∙◌, ap, subst, inl, inr, arith}
use Rattle.std.specs.List.{slice_get}
use Rattle.std.proofs.lemmas.Option.{same_Some}
use Rattle.grove_tree.specs.Trees.{Rows, IsTree, depth_of}
use Rattle.grove_plan.specs.declared.step.Step.TheVariants.{Lock}
use Rattle.grove_plan.proofs.Held.{HeldAt, unlock_no_lock}
use Rattle.grove_access.specs.Lists.{nodes_of}
use Rattle.grove_core.specs.declared.job.Job.{Job}
use Rattle.grove_core.specs.Runs.{plan_of, list_of, AllLegal}
use Rattle.grove_core.specs.Orders.{first_lock}
use Rattle.grove_core.proofs.Precedence.{Timing, Locked, within_jobs, held_order}
use Rattle.grove_core.proofs.FirstLocks.{ParentHeld, parent_held, first_or_later, deep, depth_child}

-- both locked the node f, in the order of their steps i and j
pub record Lifted (jobs : List Job) (T : Timing jobs) (f t u i j : ℕ) : Type 0 where
  pub first : Locked jobs T t f
  pub second : Locked jobs T u f
  pub forward : T.time t i < T.time u j → T.time t first.at < T.time u second.at
  pub backward : T.time u j < T.time t i → T.time u second.at < T.time t first.at

module _ (rows : Rows) (tree : IsTree rows) (jobs : List Job) (legal : AllLegal rows jobs) (T : Timing jobs) where
  -- a lock of a node and one of its parent before it
  lift_from : (f t u i j v p : ℕ) → t ≢ u → slice_get (plan_of jobs t) i ≡ Some (Lock v) → slice_get (plan_of jobs u) j ≡ Some (Lock v)
      → i < T.steps_done t → j < T.steps_done u → (a : HeldAt (plan_of jobs t) p i) → (b : HeldAt (plan_of jobs u) p j)
      → Lifted jobs T f t u a.at b.at → Lifted jobs T f t u i j
  lift_from f t u i j v p ne h k did_i did_j a b at = record {
    first = at.first;
    second = at.second;
    forward = λ lt. at.forward (held_order jobs T t u p i j ne a b did_i did_j (λ e. unlock_no_lock p v (sym e ∙ k)) lt);
    backward = λ lt. at.backward (held_order jobs T u t p j i (λ e. ne (sym e)) b a did_j did_i (λ e. unlock_no_lock p v (sym e ∙ h)) lt);
  }

  -- a common node leads up to the deeper one of the first nodes
  pub lift : (bound i : ℕ) → i < bound → (f g t u j v : ℕ) → t ≢ u → first_lock (plan_of jobs t) ≡ Some f → first_lock (plan_of jobs u) ≡ Some g
      → depth_of rows g ≤ depth_of rows f → slice_get (plan_of jobs t) i ≡ Some (Lock v) → slice_get (plan_of jobs u) j ≡ Some (Lock v)
      → i < T.steps_done t → j < T.steps_done u → Lifted jobs T f t u i j
  lift zero i lt f g t u j v ne first_t first_u le h k did_i did_j = absurd (omega arith)
  lift (suc bound) i lt f g t u j v ne first_t first_u le h k did_i did_j =
      elim (first_or_later (plan_of jobs t) i v h) [
        | inl e ↦
            let same : v ≡ f = same_Some v f (sym e ∙ first_t) in
            record {
              first = record { at = i; is_lock = subst (λ (n : ℕ). slice_get (plan_of jobs t) i ≡ Some (Lock n)) same h; done = did_i };
              second = record { at = j; is_lock = subst (λ (n : ℕ). slice_get (plan_of jobs u) j ≡ Some (Lock n)) same k; done = did_j };
              forward = λ x. x;
              backward = λ x. x;
            }
        | inr later ↦
            let legal_t = legal t (within_jobs jobs t i (Lock v) h) in
            let legal_u = legal u (within_jobs jobs u j (Lock v) k) in
            let up : ParentHeld rows (plan_of jobs t) v i = parent_held rows (nodes_of (list_of jobs t)) (plan_of jobs t) legal_t i v h later in
            let before : up.hold.at < i = up.hold.before in
            let one_up : depth_of rows v ≡ suc (depth_of rows up.parent) = depth_child rows tree v up.parent up.is_parent in
            let above : depth_of rows f ≤ depth_of rows up.parent = deep rows tree (nodes_of (list_of jobs t)) (plan_of jobs t) legal_t f first_t i up.hold.at up.parent before up.hold.is_lock in
            elim (first_or_later (plan_of jobs u) j v k) [
              | inl e ↦ let same : v ≡ g = same_Some v g (sym e ∙ first_u) in
                  absurd (omega (arith, ap (depth_of rows) same))
              | inr later_u ↦
                  let over : ParentHeld rows (plan_of jobs u) v j = parent_held rows (nodes_of (list_of jobs u)) (plan_of jobs u) legal_u j v k later_u in
                  let before_u : over.hold.at < j = over.hold.before in
                  let e : over.parent ≡ up.parent = same_Some over.parent up.parent (sym over.is_parent ∙ up.is_parent) in
                  let hold : HeldAt (plan_of jobs u) up.parent j = subst (λ (p : ℕ). HeldAt (plan_of jobs u) p j) e over.hold in
                  let hold_lt : hold.at < j = hold.before in
                  lift_from f t u i j v up.parent ne h k did_i did_j up.hold hold
                  (lift bound up.hold.at (omega arith) f g t u hold.at up.parent ne first_t first_u le up.hold.is_lock hold.is_lock (omega arith) (omega arith))
            ]
      ]
