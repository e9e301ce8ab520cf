-- A finished run is serial by the placement order.
use Rattle.std.proofs.Common.{◌≡◌, ℕ, ◌<◌, Bool, List, length, sym, ◌∙◌, ap, arith}
use Rattle.std.proofs.lemmas.Bool.{cases_lt}
use Rattle.std.proofs.Math.Seq.{take-length}
use Rattle.grove_tree.specs.Trees.{Rows, IsTree}
use Rattle.grove_plan.specs.declared.step.Step.TheVariants.{Access}
use Rattle.grove_core.specs.declared.job.Job.{Job}
use Rattle.grove_core.specs.declared.event.Event.{Event}
use Rattle.grove_core.specs.Serial.{Deed, deeds_records, deeds_replies}
use Rattle.grove_core.specs.Runs.{list_of, AllLegal, IsRun, IsFinished, deeds}
use Rattle.grove_core.specs.Orders.{locked_after, order_by, placement_order}
use Rattle.grove_core.specs.Laws.{IsEachOnce, RunsAreSerial}
use Rattle.grove_core.proofs.ConflictEquivalence.{Same, Among, AllDeeds, all_map, own, dealt, serialized}
use Rattle.grove_core.proofs.WholeLists.{Once, stamped, whole, dealt_whole, whole_records, whole_replies}
use Rattle.grove_core.proofs.Precedence.{Precedes, within_jobs}
use Rattle.grove_core.proofs.PlacementOrder.{order_agrees}
use Rattle.grove_core.proofs.EachOnce.{times, order_once, order_past, among_times, times_among, once_from, is_each_once}
use Rattle.grove_core.proofs.StepTimes.{run_timing, run_tests}
use Rattle.grove_core.proofs.ConflictOrder.{Known, known_all, conflicts_agree}
use Rattle.grove_core.proofs.OwnAccesses.{kept_run, did, whole_plan}

-- the order has each job once, whatever the test
pub order_each_once : (rows : Rows) → IsTree rows → (jobs : List Job) → AllLegal rows jobs → (after : ℕ → ℕ → Bool) → IsEachOnce (order_by rows jobs after) (length jobs)
order_each_once rows tree jobs legal after = grind (arith, is_each_once, order_once, order_past)

-- and so no job twice
order_has_once : (rows : Rows) → IsTree rows → (jobs : List Job) → AllLegal rows jobs → (after : ℕ → ℕ → Bool) → Once (order_by rows jobs after)
order_has_once rows tree jobs legal after = grind (arith, cases_lt, once_from, order_once, order_past, times)

-- each job that is there stands in it
pub order_among : (rows : Rows) → IsTree rows → (jobs : List Job) → AllLegal rows jobs → (after : ℕ → ℕ → Bool) (t : ℕ) → t < length jobs → Among t (order_by rows jobs after)
order_among rows tree jobs legal after t lt = grind (arith, order_once, times, times_among)

-- and no other
order_within : (rows : Rows) → IsTree rows → (jobs : List Job) → AllLegal rows jobs → (after : ℕ → ℕ → Bool) (t : ℕ) → Among t (order_by rows jobs after) → t < length jobs
order_within rows tree jobs legal after t h = grind (arith, among_times, cases_lt, order_past)

-- in a finished run a job has done its list
kept_list : (rows : Rows) (jobs : List Job) → AllLegal rows jobs → (past : List Event) → IsRun jobs past → IsFinished jobs past → (t : ℕ) → t < length jobs
    → own t (deeds jobs past) ≡ stamped t (list_of jobs t)
kept_list rows jobs legal past run finished t lt = grind (arith, did, kept_run, take-length, whole_plan)

-- a finished run is the serial run of its order
pub runs_are_serial : RunsAreSerial
runs_are_serial rows tree jobs legal opening past run finished =
    let order : List ℕ = placement_order rows jobs past in
    let after : ℕ → ℕ → Bool = locked_after jobs past in
    let agrees = order_agrees rows tree jobs legal (run_timing jobs past run) (locked_after jobs past) (run_tests rows jobs legal past run) in
    let among : AllDeeds (λ d. Among d.job (placement_order rows jobs past)) (deeds jobs past) =
    all_map (Known jobs past) (λ d. Among d.job (placement_order rows jobs past))
    (λ d known. order_among rows tree jobs legal (locked_after jobs past) d.job (within_jobs jobs d.job known.at (Access known.number) known.is_access))
    (deeds jobs past) (known_all jobs past) in
    let same : Same (deeds jobs past) (dealt (placement_order rows jobs past) (deeds jobs past)) =
    serialized (Precedes jobs (run_timing jobs past run)) (placement_order rows jobs past) agrees (deeds jobs past) (conflicts_agree rows jobs legal past run) among in
    let once : Once (placement_order rows jobs past) = order_has_once rows tree jobs legal (locked_after jobs past) in
    let wholes : dealt (placement_order rows jobs past) (deeds jobs past) ≡ whole (list_of jobs) (placement_order rows jobs past) =
    dealt_whole (list_of jobs) (placement_order rows jobs past) once (deeds jobs past)
    (λ t h. kept_list rows jobs legal past run finished t (order_within rows tree jobs legal (locked_after jobs past) t h)) in (
      order_each_once rows tree jobs legal (locked_after jobs past),
      record {
        records = sym (same.records opening ∙ ap (λ (ds : List Deed). deeds_records ds opening) wholes ∙ whole_records (list_of jobs) (placement_order rows jobs past) opening);
        replies = λ t. sym (same.replies opening t ∙ ap (λ (ds : List Deed). deeds_replies ds opening t) wholes ∙ whole_replies (list_of jobs) (placement_order rows jobs past) once opening t);
      },
    )
