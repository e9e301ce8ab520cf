-- The serial order follows each pair of conflicting accesses: of two done accesses of one node by two jobs, the job of the first precedes.
use Rattle.std.proofs.Common.{◌≡◌, ◌≢◌, ℕ, suc, ◌<◌, ◌≤◌, List, [], ◌∷◌, ◌++◌, length, Option, Some, None, refl, sym, ◌∙◌, subst, arith}
use Rattle.std.specs.List.{slice_get}
use Rattle.grove_tree.specs.Trees.{Rows}
use Rattle.grove_access.specs.declared.access.Access.{Access}
use Rattle.grove_plan.specs.declared.step.Step.{Step}
use Rattle.grove_plan.specs.declared.step.Step.TheVariants.{Lock, Unlock}
use Rattle.grove_plan.specs.declared.step.Step.TheVariants as plan_step
use Rattle.grove_plan.proofs.Held.{HeldAt, held_at, access_no_unlock}
use Rattle.grove_core.specs.declared.job.Job.{Job}
use Rattle.grove_core.specs.declared.event.Event.{Event}
use Rattle.grove_core.specs.declared.event.Event.TheVariants.{Take, Mark}
use Rattle.grove_core.specs.Serial.{Deed}
use Rattle.grove_core.specs.Runs.{list_of, plan_of, steps_done, next_step, IsRun, AllLegal, deed_at, deed_of, deeds}
use Rattle.grove_core.proofs.ConflictEquivalence.{AllDeeds, all_map, all_append, Conflicts}
use Rattle.grove_core.proofs.Precedence.{Timing, Locked, Precedes, within_jobs, held_order}
use Rattle.grove_core.proofs.StepTimes.{time, steps_old, steps_new, time_old, time_new, time_within, run_timing}
use Rattle.grove_access.proofs.Lists.{node_at}

-- a deed is an access of the job's list, done by a step of its plan
pub record Known (jobs : List Job) (past : List Event) (d : Deed) : Type 0 where
  pub at : ℕ
  pub number : ℕ
  pub done : at < steps_done past d.job
  pub is_access : slice_get (plan_of jobs d.job) at ≡ Some (plan_step.Access number)
  pub listed : slice_get (list_of jobs d.job) number ≡ Some d.access

known_old : (jobs : List Job) (e : Event) (past : List Event) (d : Deed) → Known jobs past d → Known jobs (e ∷ past) d
known_old jobs e past d h = grind (arith, steps_old)

-- what holds of the access that a step does
deed_at_all : (P : Deed → Type 0) (t : ℕ) (o : Option Access) → ((visit : Access) → o ≡ Some visit → P (record { job = t; access = visit })) → AllDeeds P (deed_at t o)
deed_at_all P t None h = tt
deed_at_all P t (Some visit) h = (h visit refl, tt)

deed_of_all : (P : Deed → Type 0) (t : ℕ) (list : List Access) (o : Option Step)
    → ((n : ℕ) (visit : Access) → o ≡ Some (plan_step.Access n) → slice_get list n ≡ Some visit → P (record { job = t; access = visit })) → AllDeeds P (deed_of t list o)
deed_of_all P t list None h = tt
deed_of_all P t list (Some (Lock v)) h = tt
deed_of_all P t list (Some (Unlock v)) h = tt
deed_of_all P t list (Some (plan_step.Access n)) h = deed_at_all P t (slice_get list n) (λ visit e. h n visit refl e)

-- each deed of a run is a done access
pub known_all : (jobs : List Job) (past : List Event) → AllDeeds (Known jobs past) (deeds jobs past)
known_all jobs [] = tt
known_all jobs (Mark u ∷ past) = all_map (Known jobs past) (Known jobs (Mark u ∷ past)) (known_old jobs (Mark u) past) (deeds jobs past) (known_all jobs past)
known_all jobs (Take u ∷ past) =
    grind (arith, all_append, all_map, deed_of_all, known_old, steps_new, known_all jobs past)

-- the node of an access of a legal plan is held
pub access_held : (rows : Rows) (jobs : List Job) → AllLegal rows jobs → (t i n : ℕ) (visit : Access) → slice_get (plan_of jobs t) i ≡ Some (plan_step.Access n)
    → slice_get (list_of jobs t) n ≡ Some visit → HeldAt (plan_of jobs t) visit.node i
access_held rows jobs legal t i n visit h k = grind (arith, held_at, node_at, within_jobs)

-- conflicts

conflicts_map : (R S : ℕ → ℕ → Type 0) → ((t u : ℕ) → R t u → S t u) → (ds : List Deed) → Conflicts R ds → Conflicts S ds
conflicts_map R S f [] c = tt
conflicts_map R S f (d ∷ ds) c = grind (arith, all_map, conflicts_map R S f ds c.1)

conflicts_append : (R : ℕ → ℕ → Type 0) (ds new : List Deed) → Conflicts R ds
    → AllDeeds (λ d. AllDeeds (λ k. d.access.node ≡ k.access.node → d.job ≢ k.job → R d.job k.job) new) ds → Conflicts R new → Conflicts R (ds ++ new)
conflicts_append R [] new c cross cn = cn
conflicts_append R (d ∷ ds) new c cross cn = grind (arith, all_append, conflicts_append R ds new c.1 cross.1 cn)

-- one deed alone has no conflict
conflicts_at : (R : ℕ → ℕ → Type 0) (t : ℕ) (o : Option Access) → Conflicts R (deed_at t o)
conflicts_at R t None = tt
conflicts_at R t (Some visit) = (tt, tt)

conflicts_of : (R : ℕ → ℕ → Type 0) (t : ℕ) (list : List Access) (o : Option Step) → Conflicts R (deed_of t list o)
conflicts_of R t list None = tt
conflicts_of R t list (Some (Lock v)) = tt
conflicts_of R t list (Some (Unlock v)) = tt
conflicts_of R t list (Some (plan_step.Access n)) = conflicts_at R t (slice_get list n)

-- who precedes whom is as it was after one event more
locked_old : (jobs : List Job) (e : Event) (past : List Event) (run : IsRun jobs past) (more : IsRun jobs (e ∷ past)) (t node : ℕ)
    → Locked jobs (run_timing jobs past run) t node → Locked jobs (run_timing jobs (e ∷ past) more) t node
unfolding run_timing
locked_old jobs e past run more t node h = grind (arith, steps_old)

precedes_old : (jobs : List Job) (e : Event) (past : List Event) (run : IsRun jobs past) (more : IsRun jobs (e ∷ past)) (t u : ℕ)
    → Precedes jobs (run_timing jobs past run) t u → Precedes jobs (run_timing jobs (e ∷ past) more) t u
unfolding run_timing locked_old
precedes_old jobs e past run more t u h =
    let a : time (e ∷ past) t h.before.first.at ≡ time past t h.before.first.at = time_old e past t h.before.first.at h.before.first.done in
    let b : time (e ∷ past) u h.before.second.at ≡ time past u h.before.second.at = time_old e past u h.before.second.at h.before.second.done in
    let lt : time past t h.before.first.at < time past u h.before.second.at = h.before.earlier in
    let grow_t : steps_done past t ≤ steps_done (e ∷ past) t = steps_old e past t in
    let lt_t : h.before.first.at < steps_done past t = h.before.first.done in
    let grow_u : steps_done past u ≤ steps_done (e ∷ past) u = steps_old e past u in
    let lt_u : h.before.second.at < steps_done past u = h.before.second.done in
    record {
      node = h.node;
      differ = h.differ;
      before = record {
        first = record { at = h.before.first.at; is_lock = h.before.first.is_lock; done = omega arith };
        second = record { at = h.before.second.at; is_lock = h.before.second.is_lock; done = omega arith };
        earlier = omega arith;
      };
    }

-- a deed and a later one of another job at its node
precedes_new : (rows : Rows) (jobs : List Job) → AllLegal rows jobs → (past : List Event) (u : ℕ) (run : IsRun jobs (Take u ∷ past)) (d : Deed) → Known jobs past d
    → (n : ℕ) (visit : Access) → next_step jobs past u ≡ Some (plan_step.Access n) → slice_get (list_of jobs u) n ≡ Some visit → d.access.node ≡ visit.node → d.job ≢ u
    → Precedes jobs (run_timing jobs (Take u ∷ past) run) d.job u
unfolding run_timing
precedes_new rows jobs legal past u run d known n visit e f nodes ne =
    let T : Timing jobs = run_timing jobs (Take u ∷ past) run in
    let a : HeldAt (plan_of jobs d.job) visit.node known.at =
    subst (λ (v : ℕ). HeldAt (plan_of jobs d.job) v known.at) nodes (access_held rows jobs legal d.job known.at known.number d.access known.is_access known.listed) in
    let b : HeldAt (plan_of jobs u) visit.node (steps_done past u) = access_held rows jobs legal u (steps_done past u) n visit e f in
    let a_lt : a.at < known.at = a.before in
    let b_lt : b.at < steps_done past u = b.before in
    let done : known.at < steps_done past d.job = known.done in
    let grow : steps_done past d.job ≤ steps_done (Take u ∷ past) d.job = steps_old (Take u) past d.job in
    let grown : steps_done (Take u ∷ past) u ≡ suc (steps_done past u) = steps_new past u u refl in
    let old : time (Take u ∷ past) d.job known.at ≡ time past d.job known.at = time_old (Take u) past d.job known.at known.done in
    let within : time past d.job known.at < length past = time_within past d.job known.at known.done in
    let new : time (Take u ∷ past) u (steps_done past u) ≡ length past = time_new past u u (steps_done past u) refl refl in
    record {
      node = visit.node;
      differ = ne;
      before = record {
        first = record { at = a.at; is_lock = a.is_lock; done = omega arith };
        second = record { at = b.at; is_lock = b.is_lock; done = omega arith };
        earlier = held_order jobs (run_timing jobs (Take u ∷ past) run) d.job u visit.node known.at (steps_done past u) ne a b (omega arith) (omega arith)
            (λ h. access_no_unlock n visit.node (sym e ∙ h)) (omega arith);
      };
    }

-- the conflicts of a run agree with who precedes whom
pub conflicts_agree : (rows : Rows) (jobs : List Job) → AllLegal rows jobs → (past : List Event) (run : IsRun jobs past)
    → Conflicts (Precedes jobs (run_timing jobs past run)) (deeds jobs past)
conflicts_agree rows jobs legal [] run = tt
conflicts_agree rows jobs legal (Mark u ∷ past) run =
    conflicts_map (Precedes jobs (run_timing jobs past run.1)) (Precedes jobs (run_timing jobs (Mark u ∷ past) run))
    (precedes_old jobs (Mark u) past run.1 run) (deeds jobs past) (conflicts_agree rows jobs legal past run.1)
conflicts_agree rows jobs legal (Take u ∷ past) run =
    let S : ℕ → ℕ → Type 0 = Precedes jobs (run_timing jobs (Take u ∷ past) run) in
    conflicts_append (Precedes jobs (run_timing jobs (Take u ∷ past) run)) (deeds jobs past) (deed_of u (list_of jobs u) (next_step jobs past u))
    (conflicts_map (Precedes jobs (run_timing jobs past run.1)) (Precedes jobs (run_timing jobs (Take u ∷ past) run))
    (precedes_old jobs (Take u) past run.1 run) (deeds jobs past) (conflicts_agree rows jobs legal past run.1))
    (all_map (Known jobs past)
    (λ d. AllDeeds (λ k. d.access.node ≡ k.access.node → d.job ≢ k.job → Precedes jobs (run_timing jobs (Take u ∷ past) run) d.job k.job) (deed_of u (list_of jobs u) (next_step jobs past u)))
    (λ d known. deed_of_all (λ k. d.access.node ≡ k.access.node → d.job ≢ k.job → Precedes jobs (run_timing jobs (Take u ∷ past) run) d.job k.job) u (list_of jobs u) (next_step jobs past u)
    (λ n visit e f nodes ne. precedes_new rows jobs legal past u run d known n visit e f nodes ne))
    (deeds jobs past) (known_all jobs past))
    (conflicts_of (Precedes jobs (run_timing jobs (Take u ∷ past) run)) u (list_of jobs u) (next_step jobs past u))
