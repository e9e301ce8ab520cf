-- The first reason why events are no finished run is one, and a finished run has none.
use Rattle.std.proofs.Common.{◌≡◌, ℕ, zero, suc, ◌<◌, ◌≤◌, List, ◌∷◌, length, reverse, take, Some, refl, sym, subst}
use Rattle.std.proofs.Common.{inl, inr, arith}
use Rattle.std.specs.List.{slice_get}
use Rattle.std.proofs.lemmas.Bool.{cases_order}
use Rattle.std.proofs.lemmas.List.{take_all}
use Rattle.std.proofs.lemmas.Option.{none-some, same_Some, slice_get_within}
use Rattle.grove_tree.specs.Trees.{Rows}
use Rattle.grove_plan.specs.declared.fault.PlanFault.{PlanFault}
use Rattle.grove_base.proofs.Lists.{item_there}
use Rattle.grove_plan.proofs.FaultlessIsLegal.{legal_faultless}
use Rattle.grove_core.specs.declared.job.Job.{Job}
use Rattle.grove_core.specs.declared.event.Event.{Event}
use Rattle.grove_core.specs.declared.fault.StepFault.{StepFault}
use Rattle.grove_core.specs.declared.fault.OpenFault.TheVariants as opening
use Rattle.grove_core.specs.declared.fault.ReplayFault.TheVariants.{BadPlan, BadEvent, Unfinished, Memory}
use Rattle.grove_core.specs.Runs.{AllLegal, IsRun, MayHappen}
use Rattle.grove_core.specs.Openings.{IsFirstFault}
use Rattle.grove_core.specs.Replays.{past_after, IsFirstRefused, IsFirstUnfinished}
use Rattle.grove_core.specs.ReplayLaws.{ReplayFaultIsOne, FinishedIsFaultless}
use Rattle.grove_core.proofs.Refusals.{refused_may_not, refused_for_one, first_fault_is_one}
use Rattle.grove_core.proofs.Replaying.{past_next}

-- where the first events are a run, each of them may happen after those before it, which are a run
run_of_first : (jobs : List Job) (events : List Event) (n at : ℕ) (event : Event) → at < n → n ≤ length events → slice_get events at ≡ Some event
    → IsRun jobs (past_after events n) → MayHappen jobs (past_after events at) event
run_of_first jobs events zero at event lt le there run = absurd (omega arith)
run_of_first jobs events (suc n) at event lt le there run =
    let last = item_there events n (omega arith) in
    let both : IsRun jobs (last.0 ∷ past_after events n) = subst (IsRun jobs) (past_next events n last.0 last.1) run in
    elim (cases_order at n) [
      | inl same ↦ grind (arith, same_Some)
      | inr differ ↦ elim differ [
        | inl before ↦ run_of_first jobs events n at event before (omega arith) there both.1
        | inr after ↦ absurd (omega arith)
      ]
    ]

take_whole : (events : List Event) → take (length events) events ≡ events
take_whole events = take_all (length events) events (omega arith)

le_of_lt : (m n : ℕ) → m < n → m ≤ n
le_of_lt m n lt = omega arith

-- an event that is refused isn't among first events that are a run
not_in_run : (jobs : List Job) (events : List Event) (n at : ℕ) (fault : StepFault) → at < n → n ≤ length events
    → IsFirstRefused jobs events at fault → IsRun jobs (past_after events n) → ⊥
not_in_run jobs events n at fault lt le refused run = grind (arith, refused_may_not, run_of_first)

-- nor among events that are a run
not_in_whole : (jobs : List Job) (events : List Event) (at : ℕ) (fault : StepFault) → IsFirstRefused jobs events at fault → IsRun jobs (reverse events) → ⊥
not_in_whole jobs events at fault refused run =
    not_in_run jobs events (length events) at fault (slice_get_within events at refused.event refused.there) (omega arith) refused
    (subst (λ (es : List Event). IsRun jobs (reverse es)) (sym (take_whole events)) run)

-- two events that are refused first are one, for one reason
same_event : (jobs : List Job) (events : List Event) (at bt : ℕ) (f g : StepFault) → at ≡ bt → IsFirstRefused jobs events at f → IsFirstRefused jobs events bt g → f ≡ g
same_event jobs events at bt f g same one other = grind (arith, refused_for_one, same_Some)

-- jobs whose plans are legal have no first fault
legal_opens : (rows : Rows) (jobs : List Job) (t : ℕ) (fault : PlanFault) → AllLegal rows jobs → IsFirstFault rows jobs (opening.BadPlan t fault) → ⊥
legal_opens rows jobs t fault legal bad = grind (arith, legal_faultless, none-some)

-- a job that isn't at its end isn't below the lowest such
not_below : (jobs : List Job) (past : List Event) (t u : ℕ) → t < u → IsFirstUnfinished jobs past t → IsFirstUnfinished jobs past u → ⊥
not_below jobs past t u lt one other = grind (arith)

-- events have one first reason alone
pub replay_fault_is_one : ReplayFaultIsOne
replay_fault_is_one rows jobs events Memory other ne_one ne_other a b = absurd (ne_one refl)
replay_fault_is_one rows jobs events (BadPlan t f) Memory ne_one ne_other a b = absurd (ne_other refl)
replay_fault_is_one rows jobs events (BadEvent at f) Memory ne_one ne_other a b = absurd (ne_other refl)
replay_fault_is_one rows jobs events (Unfinished t) Memory ne_one ne_other a b = absurd (ne_other refl)
replay_fault_is_one rows jobs events (BadPlan t f) (BadPlan u g) ne_one ne_other a b = grind (arith, first_fault_is_one)
replay_fault_is_one rows jobs events (BadPlan t f) (BadEvent at g) ne_one ne_other a b = absurd (legal_opens rows jobs t f b.0 a)
replay_fault_is_one rows jobs events (BadPlan t f) (Unfinished u) ne_one ne_other a b = absurd (legal_opens rows jobs t f b.0 a)
replay_fault_is_one rows jobs events (BadEvent at f) (BadPlan t g) ne_one ne_other a b = absurd (legal_opens rows jobs t g a.0 b)
replay_fault_is_one rows jobs events (BadEvent at f) (BadEvent bt g) ne_one ne_other a b = elim (cases_order at bt) [
  | inl same ↦ let e : f ≡ g = same_event jobs events at bt f g same a.1 b.1 in cc
  | inr differ ↦ elim differ [
    | inl before ↦ absurd (not_in_run jobs events bt at f before (le_of_lt bt (length events) (slice_get_within events bt b.1.event b.1.there)) a.1 b.1.before)
    | inr after ↦ absurd (not_in_run jobs events at bt g after (le_of_lt at (length events) (slice_get_within events at a.1.event a.1.there)) b.1 a.1.before)
  ]
]
replay_fault_is_one rows jobs events (BadEvent at f) (Unfinished t) ne_one ne_other a b = absurd (not_in_whole jobs events at f a.1 b.1)
replay_fault_is_one rows jobs events (Unfinished t) (BadPlan u g) ne_one ne_other a b = absurd (legal_opens rows jobs u g a.0 b)
replay_fault_is_one rows jobs events (Unfinished t) (BadEvent at g) ne_one ne_other a b = absurd (not_in_whole jobs events at g b.1 a.1)
replay_fault_is_one rows jobs events (Unfinished t) (Unfinished u) ne_one ne_other a b =
    grind (arith, cases_order, not_below)

-- a finished run has no reason
pub finished_is_faultless : FinishedIsFaultless
finished_is_faultless rows jobs events legal run finished (BadPlan t f) a = absurd (legal_opens rows jobs t f legal a)
finished_is_faultless rows jobs events legal run finished (BadEvent at f) a = absurd (not_in_whole jobs events at f a.1 run)
finished_is_faultless rows jobs events legal run finished (Unfinished t) a = grind (arith)
finished_is_faultless rows jobs events legal run finished Memory a = refl
