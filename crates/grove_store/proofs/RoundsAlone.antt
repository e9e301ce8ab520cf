-- A round of legal plans that its caller does alone leaves what a finished run of them leaves.
use Rattle.std.proofs.Common.{◌≡◌, ℕ, ◌+◌, ◌<◌, ◌≤◌, ℤ, List, length, get_or, sym, ◌∙◌, ap, subst, arith}
use Rattle.std.specs.Prelude.{All}
use Rattle.std.proofs.lemmas.List.{ext_get_or, get_or-map}
use Rattle.std.proofs.lemmas.Option.{slice_get-get_or}
use Rattle.grove_base.specs.Numbers.{numbers_below}
use Rattle.grove_base.proofs.Counting.{numbers_length, numbers_got}
use Rattle.grove_tree.specs.Trees.{Rows}
use Rattle.grove_access.specs.declared.reply.Reply.{Reply}
use Rattle.grove_core.specs.declared.job.Job.{Job}
use Rattle.grove_core.specs.declared.alone.DoneAlone.{DoneAlone}
use Rattle.grove_core.specs.Runs.{AllLegal, waits_of}
use Rattle.grove_core.specs.Orders.{placement_order}
use Rattle.grove_core.specs.Alone.{alone}
use Rattle.grove_core.specs.DoneAlone.{IsDoneFrom, own_replies}
use Rattle.grove_core.proofs.AloneRuns.{jobs_alone}
use Rattle.grove_run.specs.Runs.{places_of}
use Rattle.grove_store.specs.StoreStates.{StoreState}
use Rattle.grove_store.specs.Rounds.{waits_after, round_texts}
use Rattle.grove_store.specs.Parts.{waits_at, LeavesRound}
use Rattle.grove_store.proofs.Telling.{mapped_long}

-- no wait is added
waits_kept : (rows : Rows) (jobs : List Job) → AllLegal rows jobs → (waits : List ℕ) → All (λ n. n ≤ 1000) waits
    → waits ≡ waits_after jobs (alone jobs) waits
waits_kept rows jobs legal waits few =
    let size : length (waits_after jobs (alone jobs) waits) ≡ length waits =
    mapped_long (waits_at jobs (alone jobs) waits) (length waits) in
    ext_get_or 0 waits (waits_after jobs (alone jobs) waits) (sym size) (λ node lt.
    let long : length (numbers_below (length waits)) ≡ length waits = numbers_length (length waits) in
    let within : node < length (numbers_below (length waits)) = omega arith in
    let none : waits_of jobs (alone jobs) node ≡ 0 = (jobs_alone rows jobs legal).waits node in
    let le : get_or waits node 0 ≤ 1000 = few node 0 lt in
    let same : get_or waits node 0 ≡ waits_at jobs (alone jobs) waits node = omega arith in
    same
    ∙ sym (get_or-map (waits_at jobs (alone jobs) waits) (numbers_below (length waits)) node 0 0 within
    ∙ ap (waits_at jobs (alone jobs) waits)
    (numbers_got (length waits) node (get_or (numbers_below (length waits)) node 0)
    (slice_get-get_or (numbers_below (length waits)) node 0 within)).0))

-- jobs done alone, with what is told of them, are a round of the jobs
pub leaves_done : (before now : StoreState) (jobs : List Job) (counts : List ℕ) (done : DoneAlone)
    (replies : List (List ℕ)) (records : List ℤ)
    → before ≡ now → AllLegal now.rows jobs → All (λ n. n ≤ 1000) before.waits
    → IsDoneFrom before.rows jobs before.records records done
    → replies
    ≡ round_texts (before.rounds + 1) counts (places_of done.order.items (length jobs))
    (own_replies jobs done.replies.items)
    → LeavesRound before jobs counts replies records before.waits
leaves_done before now jobs counts done replies records same are_legal few is told =
    let legal : AllLegal before.rows jobs =
    subst (λ (s : StoreState). AllLegal s.rows jobs) (sym same) are_legal in record {
      past = alone jobs;
      run = (jobs_alone before.rows jobs legal).is_run;
      finished = (jobs_alone before.rows jobs legal).is_finished;
      told = told
          ∙ ap (λ (os : List ℕ). round_texts (before.rounds + 1) counts (places_of os (length jobs))
          (own_replies jobs done.replies.items)) is.order
          ∙ ap (λ (rs : List (List Reply)). round_texts (before.rounds + 1) counts
          (places_of (placement_order before.rows jobs (alone jobs)) (length jobs)) rs) is.replies;
      recorded = is.records;
      waited = waits_kept before.rows jobs legal before.waits few;
    }
