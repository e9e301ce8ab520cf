-- What a finished run leaves, and what its round is answered.
use Rattle.std.proofs.Common.{◌≡◌, ◌≢◌, ◌⊎◌, ℕ, ◌+◌, ◌-◌, ◌^◌, ◌<◌, ℤ, List, length, map, replicate, refl, sym, ◌∙◌, ap, subst, inl, inr}
use Rattle.std.specs.Prelude.{codes}
use Rattle.std.proofs.lemmas.List.{length-map, length-replicate}
use Rattle.grove_access.specs.declared.access.Access.{Access}
use Rattle.grove_core.specs.declared.job.Job.{Job}
use Rattle.grove_core.specs.declared.event.Event.{Event}
use Rattle.grove_core.specs.Kept.{past_of}
use Rattle.grove_core.specs.Orders.{placement_order}
use Rattle.grove_core.specs.Runs.{run_records}
use Rattle.grove_core.specs.declared.run_fault.RunFault.{RunFault}
use Rattle.grove_core.specs.declared.run_fault.RunFault.TheVariants.{BadPlan, Memory, Foreign, Unfinished}
use Rattle.grove_run.specs.Runs.{FinishedState, IsLegalRunFault, places_of}
use Rattle.grove_run.specs.FinishedRuns.{IsFinishedRun}
use Rattle.grove_wire.specs.Names.{run_name}
use Rattle.grove_wire.specs.Replies.{error_text}
use Rattle.grove_store.specs.StoreStates.{StoreState, IsStore}
use Rattle.grove_store.specs.Rounds.{waits_after, round_texts, RunsRound, RefusesRound, FailsRound}
use Rattle.grove_build.specs.SettledJobs.{AreSettledJobs}
use Rattle.grove_core.specs.Runs.{replies_of}
use Rattle.grove_store.specs.Parts.{LeavesRound, AnswersRound, AnswersJobs, RunsLists, RunsJobs}
use Rattle.grove_store.proofs.Keeping.{left_keeps}
use Rattle.grove_store.proofs.Telling.{texts_long}

-- what a finished run tells is what the jobs leave
pub leaves_round : (before : StoreState) (jobs : List Job) (counts : List ℕ) (finished : FinishedState) (replies : List (List ℕ)) (records : List ℤ) (waits old : List ℕ) → IsFinishedRun before.rows jobs before.records finished
    → replies ≡ round_texts (before.rounds + 1) counts (places_of finished.order (length finished.core.jobs)) (replies_of finished.core.jobs finished.core.opening (past_of finished.core))
    → records ≡ run_records finished.core.jobs finished.core.opening (past_of finished.core) → waits ≡ waits_after finished.core.jobs (past_of finished.core) old → old ≡ before.waits
    → LeavesRound before jobs counts replies records waits
leaves_round before jobs counts finished replies records waits old run told recorded waited same =
    let past : List Event = past_of finished.core in
    let of = run.batch in record {
      past = past;
      run = run.run;
      finished = run.ended;
      told = told
          ∙ ap (λ (os : List ℕ). round_texts (before.rounds + 1) counts (places_of os (length finished.core.jobs)) (replies_of finished.core.jobs finished.core.opening past)) run.order
          ∙ ap (λ (js : List Job). round_texts (before.rounds + 1) counts (places_of (placement_order before.rows jobs past) (length js)) (replies_of js finished.core.opening past)) of.jobs_are
          ∙ ap (λ (os : List ℤ). round_texts (before.rounds + 1) counts (places_of (placement_order before.rows jobs past) (length jobs)) (replies_of jobs os past)) of.opened;
      recorded = recorded ∙ ap (λ (js : List Job). run_records js finished.core.opening past) of.jobs_are ∙ ap (λ (os : List ℤ). run_records jobs os past) of.opened;
      waited = waited ∙ ap (λ (ws : List ℕ). waits_after finished.core.jobs past ws) same ∙ ap (λ (js : List Job). waits_after js past before.waits) of.jobs_are;
    }

-- once that is put in place, the round was run
pub runs_round : (before after : StoreState) (lists : List (List Access)) (jobs : List Job) (counts : List ℕ) (replies : List (List ℕ)) (records : List ℤ) (waits : List ℕ)
    → AreSettledJobs before.rows lists jobs → before.rounds < 2 ^ 64 - 1 → LeavesRound before jobs counts replies records waits
    → after ≡ record before { records = records; waits = waits; rounds = before.rounds + 1 }
    → RunsLists before lists counts replies after
runs_round before after lists jobs counts replies records waits settled room leaves is batches joins counted = record {
  jobs = jobs;
  past = leaves.past;
  settled = subst (λ (ls : List (List Access)). AreSettledJobs before.rows ls jobs) (sym joins) settled;
  run = leaves.run;
  finished = leaves.finished;
  room = room;
  told = leaves.told
      ∙ ap (λ (ns : List ℕ). round_texts (before.rounds + 1) ns (places_of (placement_order before.rows jobs leaves.past) (length jobs)) (replies_of jobs before.records leaves.past)) (sym counted)
      ∙ ap (λ (n : ℕ). round_texts n (map length batches) (places_of (placement_order before.rows jobs leaves.past) (length jobs)) (replies_of jobs before.records leaves.past)) (sym (ap (λ (s : StoreState). s.rounds) is));
  left = is
      ∙ ap (λ (rs : List ℤ). record before { records = rs; waits = waits; rounds = before.rounds + 1 }) leaves.recorded
      ∙ ap (λ (ws : List ℕ). record before { records = run_records jobs before.records leaves.past; waits = ws; rounds = before.rounds + 1 }) leaves.waited;
}

-- jobs that were run are answered by that
pub run_answers : (before after : StoreState) (jobs : List Job) (counts : List ℕ) (replies : List (List ℕ))
    → RunsJobs before jobs counts replies after → AnswersJobs before jobs counts replies after
run_answers before after jobs counts replies runs lists settled batches joins counted =
    inl (runs lists settled batches joins counted)

-- with that in place the store is one again, and has run the jobs
pub put_in_place : (before now : StoreState) (jobs : List Job) (counts : List ℕ) (replies : List (List ℕ))
    (records : List ℤ) (waits : List ℕ)
    → before ≡ now → IsStore before → now.rounds < 2 ^ 64 - 1 → LeavesRound before jobs counts replies records waits
    → IsStore (record before { records = records; waits = waits; rounds = before.rounds + 1 })
    × RunsJobs now jobs counts replies
    (record before { records = records; waits = waits; rounds = before.rounds + 1 })
put_in_place before now jobs counts replies records waits same is free leaves =
    let after : StoreState = record before { records = records; waits = waits; rounds = before.rounds + 1 } in
    let room : before.rounds < 2 ^ 64 - 1 = subst (λ (s : StoreState). s.rounds < 2 ^ 64 - 1) (sym same) free in
    let runs : RunsJobs before jobs counts replies after = λ lists settled.
    runs_round before after lists jobs counts replies records waits settled room leaves refl in (
      left_keeps before jobs counts replies records waits is room leaves,
      subst (λ (s : StoreState). RunsJobs s jobs counts replies after) same runs,
    )

-- a refusal of each line
refuses : (name : List ℕ) (before : StoreState) (counts : List ℕ) (batches : List (List (List Access))) (replies : List (List ℕ)) → map length batches ≡ counts
    → replies ≡ replicate (length counts) (error_text name) → RefusesRound name before batches replies before
refuses name before counts batches replies counted is = (
  is ∙ ap (λ (n : ℕ). replicate n (error_text name)) (sym (ap length counted) ∙ length-map batches length),
  refl,
)

-- a run that failed
fails_foreign : (before : StoreState) (lists : List (List Access)) (counts : List ℕ) (replies : List (List ℕ)) → before.rounds < 2 ^ 64 - 1 → replies ≡ replicate (length counts) (error_text (codes "foreign"))
    → AnswersRound before lists counts replies before
fails_foreign before lists counts replies room is batches joins counted = inr (inl (room, inl (refuses (codes "foreign") before counts batches replies counted is)))

fails_unfinished : (before : StoreState) (lists : List (List Access)) (counts : List ℕ) (replies : List (List ℕ)) → before.rounds < 2 ^ 64 - 1 → replies ≡ replicate (length counts) (error_text (codes "unfinished"))
    → AnswersRound before lists counts replies before
fails_unfinished before lists counts replies room is batches joins counted = inr (inl (room, inr (refuses (codes "unfinished") before counts batches replies counted is)))

-- a count of rounds that can't grow
pub fails_full : (before : StoreState) (lists : List (List Access)) (counts : List ℕ) (replies : List (List ℕ)) → before.rounds ≡ 2 ^ 64 - 1 → replies ≡ replicate (length counts) (error_text (codes "rounds"))
    → AnswersRound before lists counts replies before
fails_full before lists counts replies full is batches joins counted = inr (inr (full, refuses (codes "rounds") before counts batches replies counted is))

-- each line of a round has a reply
pub answered_long : (before : StoreState) (batches : List (List (List Access))) (replies : List (List ℕ)) (after : StoreState) → RunsRound before batches replies after ⊎ FailsRound before batches replies after → length replies ≡ length batches
answered_long before batches replies after (inl runs) =
    ap length runs.told
    ∙ texts_long after.rounds (map length batches) (places_of (placement_order before.rows runs.jobs runs.past) (length runs.jobs)) (replies_of runs.jobs before.records runs.past)
    ∙ length-map batches length
answered_long before batches replies after (inr (inl (room, inl refused))) = ap length refused.0 ∙ length-replicate (length batches) _
answered_long before batches replies after (inr (inl (room, inr refused))) = ap length refused.0 ∙ length-replicate (length batches) _
answered_long before batches replies after (inr (inr (full, refused))) = ap length refused.0 ∙ length-replicate (length batches) _

-- a run of legal plans fails for one of two reasons, out of memory aside
pub fails_run : (before : StoreState) (lists : List (List Access)) (counts : List ℕ) (replies : List (List ℕ)) (fault : RunFault)
    → before.rounds < 2 ^ 64 - 1 → IsLegalRunFault fault → fault ≢ Memory → replies ≡ replicate (length counts) (error_text (run_name fault)) → AnswersRound before lists counts replies before
fails_run before lists counts replies (BadPlan t fault) room bad found is = absurd bad
fails_run before lists counts replies Memory room bad found is = absurd (found refl)
fails_run before lists counts replies Foreign room bad found is = fails_foreign before lists counts replies room is
fails_run before lists counts replies Unfinished room bad found is = fails_unfinished before lists counts replies room is
