-- A job's own accesses in a run are those of the steps that it has done; a whole plan does the whole list.
use Rattle.std.proofs.Common.{◌≡◌, ◌≢◌, ℕ, zero, suc, ◌≤◌, Bool, true, false, eqb, List, [], ◌∷◌, ◌++◌, length, take, Option, Some, None, refl, sym, ◌∙◌, ap, inl, inr, arith}
use Rattle.std.specs.List.{slice_get}
use Rattle.std.proofs.lemmas.List.{append_assoc, append-nil}
use Rattle.std.proofs.lemmas.Bool.{cases_eq, eq-eqb, ne_eqb}
use Rattle.std.proofs.Math.Seq.{take-length}
use Rattle.grove_base.specs.Numbers.{numbers_below}
use Rattle.grove_tree.specs.Trees.{Rows}
use Rattle.grove_access.specs.declared.access.Access.{Access}
use Rattle.grove_access.specs.Lists.{nodes_of}
use Rattle.grove_plan.specs.declared.step.Step.{Step}
use Rattle.grove_plan.specs.declared.step.Step.TheVariants.{Lock, Unlock}
use Rattle.grove_plan.specs.declared.step.Step.TheVariants as plan_step
use Rattle.grove_plan.specs.Plans.{accesses_of, IsLegal}
use Rattle.grove_core.specs.declared.job.Job.{Job}
use Rattle.grove_core.specs.declared.event.Event.{Event}
use Rattle.grove_core.specs.declared.event.Event.TheVariants.{Take, Mark}
use Rattle.grove_core.specs.Serial.{Deed}
use Rattle.grove_core.specs.Runs.{list_of, plan_of, steps_done, next_step, IsRun, deed_at, deed_of, deeds}
use Rattle.grove_core.proofs.ConflictEquivalence.{own, kept_if}
use Rattle.grove_core.proofs.WholeLists.{stamped}
use Rattle.grove_core.proofs.StepTimes.{steps_new, steps_other}
use Rattle.grove_base.proofs.Lists.{item_there, take_next}
use Rattle.grove_access.proofs.Lists.{nodes_length}

-- A job's own deeds

-- the deeds of steps
abbrev pub did : ℕ → List Access → List Step → List Deed
did t list [] = []
did t list (s ∷ steps) = deed_of t list (Some s) ++ did t list steps

-- one step more has its own deed more
pub did_last : (t : ℕ) (list : List Access) (steps : List Step) (s : Step) → did t list (steps ++ s ∷ []) ≡ did t list steps ++ deed_of t list (Some s)
did_last t list [] s = append-nil (deed_of t list (Some s))
did_last t list (x ∷ steps) s = grind (arith, append_assoc, did_last t list steps s)

own_append_by : (c : Bool) (d : Deed) (all mine more : List Deed) → all ≡ mine ++ more → kept_if c d all ≡ kept_if c d mine ++ more
own_append_by true d all mine more e = ap (λ (ds : List Deed). d ∷ ds) e
own_append_by false d all mine more e = e

own_append : (t : ℕ) (a b : List Deed) → own t (a ++ b) ≡ own t a ++ own t b
own_append t [] b = refl
own_append t (d ∷ a) b = own_append_by (eqb d.job t) d (own t (a ++ b)) (own t a) (own t b) (own_append t a b)

own_at : (t : ℕ) (o : Option Access) → own t (deed_at t o) ≡ deed_at t o
own_at t None = refl
own_at t (Some visit) = rw (eq-eqb t t refl) refl

own_of : (t : ℕ) (list : List Access) (o : Option Step) → own t (deed_of t list o) ≡ deed_of t list o
own_of t list None = refl
own_of t list (Some (Lock v)) = refl
own_of t list (Some (Unlock v)) = refl
own_of t list (Some (plan_step.Access n)) = own_at t (slice_get list n)

none_at : (t u : ℕ) → u ≢ t → (o : Option Access) → own t (deed_at u o) ≡ []
none_at t u ne None = refl
none_at t u ne (Some visit) = rw (ne_eqb u t ne) refl

none_of : (t u : ℕ) → u ≢ t → (list : List Access) (o : Option Step) → own t (deed_of u list o) ≡ []
none_of t u ne list None = refl
none_of t u ne list (Some (Lock v)) = refl
none_of t u ne list (Some (Unlock v)) = refl
none_of t u ne list (Some (plan_step.Access n)) = none_at t u ne (slice_get list n)

-- a job's own deeds are those of the steps that it has done
pub kept_run : (jobs : List Job) (past : List Event) → IsRun jobs past → (t : ℕ) → own t (deeds jobs past) ≡ did t (list_of jobs t) (take (steps_done past t) (plan_of jobs t))
kept_run jobs [] run t = refl
kept_run jobs (Mark u ∷ past) run t = kept_run jobs past run.1 t
kept_run jobs (Take u ∷ past) run t =
    own_append t (deeds jobs past) (deed_of u (list_of jobs u) (next_step jobs past u)) ∙ elim (cases_eq u t) [
      | inl e ↦
          let step : slice_get (plan_of jobs t) (steps_done past t) ≡ Some run.0.0 = ap (λ (k : ℕ). next_step jobs past k) (sym e) ∙ run.0.1 in
          ap (λ (ds : List Deed). ds ++ own t (deed_of u (list_of jobs u) (next_step jobs past u))) (kept_run jobs past run.1 t)
          ∙ ap (λ (ds : List Deed). did t (list_of jobs t) (take (steps_done past t) (plan_of jobs t)) ++ ds)
          (ap (λ (k : ℕ). own t (deed_of k (list_of jobs k) (next_step jobs past k))) e
          ∙ own_of t (list_of jobs t) (next_step jobs past t) ∙ ap (deed_of t (list_of jobs t)) step)
          ∙ sym (did_last t (list_of jobs t) (take (steps_done past t) (plan_of jobs t)) run.0.0)
          ∙ ap (did t (list_of jobs t)) (sym (take_next (plan_of jobs t) (steps_done past t) run.0.0 step))
          ∙ ap (λ (n : ℕ). did t (list_of jobs t) (take n (plan_of jobs t))) (sym (steps_new past u t e))
      | inr ne ↦ grind (arith, append-nil, none_of, own, steps_other, kept_run jobs past run.1 t)
    ]

-- the deeds of accesses by number
abbrev pub picked : ℕ → List Access → List ℕ → List Deed
picked t list [] = []
picked t list (n ∷ ns) = deed_at t (slice_get list n) ++ picked t list ns

did_picked : (t : ℕ) (list : List Access) (steps : List Step) → did t list steps ≡ picked t list (accesses_of steps)
did_picked t list [] = refl
did_picked t list (Lock v ∷ steps) = did_picked t list steps
did_picked t list (Unlock v ∷ steps) = did_picked t list steps
did_picked t list (plan_step.Access n ∷ steps) = ap (λ (ds : List Deed). deed_at t (slice_get list n) ++ ds) (did_picked t list steps)

picked_last : (t : ℕ) (list : List Access) (ns : List ℕ) (n : ℕ) → picked t list (ns ++ n ∷ []) ≡ picked t list ns ++ deed_at t (slice_get list n)
picked_last t list [] n = append-nil (deed_at t (slice_get list n))
picked_last t list (m ∷ ns) n = grind (arith, append_assoc, picked_last t list ns n)

stamped_last : (t : ℕ) (list : List Access) (visit : Access) → stamped t (list ++ visit ∷ []) ≡ stamped t list ++ record { job = t; access = visit } ∷ []
stamped_last t [] visit = refl
stamped_last t (x ∷ list) visit = ap (λ (ds : List Deed). record { job = t; access = x } ∷ ds) (stamped_last t list visit)

picked_numbers : (t : ℕ) (list : List Access) (n : ℕ) → n ≤ length list → picked t list (numbers_below n) ≡ stamped t (take n list)
picked_numbers t list zero le = refl
picked_numbers t list (suc n) le =
    let at : (x : Access) × (slice_get list n ≡ Some x) = item_there list n (omega arith) in
    picked_last t list (numbers_below n) n
    ∙ ap (λ (ds : List Deed). ds ++ deed_at t (slice_get list n)) (picked_numbers t list n (omega arith))
    ∙ ap (λ (o : Option Access). stamped t (take n list) ++ deed_at t o) at.1 ∙ sym (stamped_last t (take n list) at.0)
    ∙ ap (stamped t) (sym (take_next list n at.0 at.1))

-- a whole plan does the whole list
pub whole_plan : (rows : Rows) (list : List Access) (plan : List Step) → IsLegal rows (nodes_of list) plan → (t : ℕ) → did t list plan ≡ stamped t list
whole_plan rows list plan legal t = grind (arith, did_picked, nodes_length, picked_numbers, stamped, take-length)
