-- What every lawful round keeps: names, workers, and that the store is one.
use Rattle.std.proofs.Common.{◌≡◌, ◌⊎◌, ℕ, suc, ◌+◌, ◌-◌, ◌^◌, ◌<◌, min, List, [], ◌∷◌, length, get_or}
use Rattle.std.proofs.Common.{Option, Some, None, refl, sym, ◌∙◌, ap, subst, inl, inr, arith}
use Rattle.std.specs.Prelude.{Result, Ok, Err}
use Rattle.serde_json.specs.Data.{Data}
use Rattle.grove_tree.specs.Trees.{Rows}
use Rattle.grove_tree.specs.Weights.{unweighed, weighed_from}
use Rattle.grove_access.specs.declared.access.Access.{Access}
use Rattle.grove_core.specs.declared.job.Job.{Job}
use Rattle.grove_core.specs.declared.event.Event.{Event}
use Rattle.grove_core.specs.Runs.{deeds, waits_of}
use Rattle.grove_core.proofs.RunSteps.{deeds_length}
use Rattle.grove_wire.specs.declared.fault.WireFault.{WireFault}
use Rattle.grove_wire.specs.Requests.{Asked, Plan, Check, Batch, Weights, Reweigh, request_of}
use Rattle.grove_store.specs.StoreStates.{StoreState, IsStore, IsSuccessor, reweighed_store}
use Rattle.grove_store.specs.Alone.{RepliesAlone}
use Rattle.grove_store.specs.Rounds.{lists_in, batches_in, store_after, RunsRound, FailsRound, AnswersLines, IsLawfulRound}
use Rattle.grove_store.proofs.Reweighing.{reweighed_keeps}
use Rattle.grove_store.proofs.Keeping.{waits_few}
use Rattle.grove_store.proofs.Leaving.{answered_long}
use Rattle.grove_store.proofs.Telling.{mapped_long}
use Rattle.grove_store.proofs.Together.{parts_of_batches}

same_names : (weight : ℕ → ℕ → ℕ) (node : ℕ) (rows : Rows) → unweighed (weighed_from weight node rows) ≡ unweighed rows
same_names weight node [] = refl
same_names weight node (row ∷ rows) =
    ap (λ (names : List (Option ℕ × List ℕ)). (row.parent, row.name) ∷ names) (same_names weight (suc node) rows)

keeps_all : (before after : StoreState) → IsStore before → after ≡ before → IsSuccessor before after
keeps_all before after is same = subst (λ (s : StoreState). IsSuccessor before s) (sym same)
    (record { old = is; new = is; names = refl; workers = refl })

keeps_names : (before after : StoreState) → IsStore before → after ≡ reweighed_store before → IsSuccessor before after
keeps_names before after is same = subst (λ (s : StoreState). IsSuccessor before s) (sym same)
    (record { old = is; new = reweighed_keeps before is; names = same_names _ 0 before.rows; workers = refl })

-- the store after a run is one
pub run_keeps : (before : StoreState) (jobs : List Job) (past : List Event) → IsStore before
    → before.rounds < 2 ^ 64 - 1 → IsStore (store_after before jobs past)
run_keeps before jobs past is room = record {
  tree = is.tree;
  limits = is.limits;
  recorded = deeds_length (deeds jobs past) before.records ∙ is.recorded;
  waited = mapped_long (λ (node : ℕ). min 1000 (get_or before.waits node 0 + waits_of jobs past node))
      (length before.waits) ∙ is.waited;
  few = waits_few jobs past before.waits;
  some_workers = is.some_workers;
  few_workers = is.few_workers;
  counted = omega arith;
}

keeps_round : (before : StoreState) (batches : List (List (List Access))) (replies : List (List ℕ)) (after : StoreState)
    → IsStore before → RunsRound before batches replies after ⊎ FailsRound before batches replies after
    → IsSuccessor before after
keeps_round before batches replies after is (inl runs) =
    subst (λ (s : StoreState). IsSuccessor before s) (sym runs.left)
    (record { old = is; new = run_keeps before runs.jobs runs.past is runs.room; names = refl; workers = refl })
keeps_round before batches replies after is (inr (inl (room, inl refused))) = keeps_all before after is refused.1
keeps_round before batches replies after is (inr (inl (room, inr refused))) = keeps_all before after is refused.1
keeps_round before batches replies after is (inr (inr (full, refused))) = keeps_all before after is refused.1

keeps_alone : (before after : StoreState) (asked : Result Asked WireFault) (reply : Data) → IsStore before
    → RepliesAlone before asked reply after → IsSuccessor before after
keeps_alone before after (Err fault) reply is answers = keeps_all before after is answers.1
keeps_alone before after (Ok (Plan list)) reply is answers = keeps_all before after is answers.1
keeps_alone before after (Ok (Check list plan flow)) reply is answers = keeps_all before after is answers.1
keeps_alone before after (Ok (Batch lists)) reply is answers = absurd answers
keeps_alone before after (Ok Weights) reply is answers = keeps_all before after is answers.1
keeps_alone before after (Ok Reweigh) reply is answers = keeps_names before after is answers.1

batches_long : (rows : Rows) (lines : List (List ℕ)) (batches : List (List (List Access)))
    → batches_in rows lines ≡ Some batches → length batches ≡ length lines
batches_long rows [] [] read = refl
batches_long rows [] (lists ∷ batches) read = absurd (cc)
batches_long rows (line ∷ lines) batches read =
    let (first, others, is_first, are_others, parts) =
    parts_of_batches (lists_in rows line) (batches_in rows lines) batches read in
    ap length parts ∙ ap suc (batches_long rows lines others are_others)

keeps_lines : (before after : StoreState) (lines replies : List (List ℕ))
    (asked : Option (List (List (List Access)))) → IsStore before → batches_in before.rows lines ≡ asked
    → AnswersLines before lines asked replies after → IsSuccessor before after × (length replies ≡ length lines)
keeps_lines before after lines replies None is read (line, reply, one, told, (answer, answers, text)) =
    (keeps_alone before after (request_of before.rows line) answer is answers, ap length told ∙ sym (ap length one))
keeps_lines before after lines replies (Some batches) is read (some, few, answered) = (
  keeps_round before batches replies after is answered,
  answered_long before batches replies after answered ∙ batches_long before.rows lines batches read,
)

-- a lawful round keeps all that, and has a reply for each line
pub round_keeps : (before : StoreState) (lines replies : List (List ℕ)) (after : StoreState)
    → IsLawfulRound before lines replies after → IsSuccessor before after × (length replies ≡ length lines)
round_keeps before lines replies after round =
    keeps_lines before after lines replies (batches_in before.rows lines) round.store refl round.answered
