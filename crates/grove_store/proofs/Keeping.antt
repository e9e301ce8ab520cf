-- What a round leaves is a store again.
use Rattle.std.proofs.Common.{ℕ, ◌+◌, ◌-◌, ◌^◌, ◌<◌, ◌≤◌, min, ℤ, List, length, get_or, sym, ◌∙◌, ap, subst, arith}
use Rattle.std.specs.Prelude.{All}
use Rattle.std.proofs.lemmas.List.Elements.{All-map}
use Rattle.grove_base.specs.Numbers.{numbers_below}
use Rattle.grove_core.specs.declared.job.Job.{Job}
use Rattle.grove_core.specs.declared.event.Event.{Event}
use Rattle.grove_core.specs.Runs.{deeds, waits_of}
use Rattle.grove_core.proofs.RunSteps.{deeds_length}
use Rattle.grove_store.specs.StoreStates.{StoreState, IsStore}
use Rattle.grove_store.specs.Rounds.{waits_after}
use Rattle.grove_store.specs.Parts.{LeavesRound}
use Rattle.grove_store.proofs.Telling.{mapped_long}

-- the waits of each node stay at most 1,000
pub waits_few : (jobs : List Job) (past : List Event) (waits : List ℕ) → All (λ n. n ≤ 1000) (waits_after jobs past waits)
waits_few jobs past waits =
    All-map (λ n. n ≤ 1000) (λ (node : ℕ). min 1000 (get_or waits node 0 + waits_of jobs past node)) (numbers_below (length waits)) (λ k d lt. omega arith)

-- what a round leaves is put in place
pub left_keeps : (before : StoreState) (jobs : List Job) (counts : List ℕ) (replies : List (List ℕ)) (records : List ℤ) (waits : List ℕ) → IsStore before → before.rounds < 2 ^ 64 - 1
    → LeavesRound before jobs counts replies records waits → IsStore (record before { records = records; waits = waits; rounds = before.rounds + 1 })
left_keeps before jobs counts replies records waits is room leaves = record {
  tree = is.tree;
  limits = is.limits;
  recorded = ap length leaves.recorded ∙ deeds_length (deeds jobs leaves.past) before.records ∙ is.recorded;
  waited = ap length leaves.waited ∙ mapped_long (λ (node : ℕ). min 1000 (get_or before.waits node 0 + waits_of jobs leaves.past node)) (length before.waits) ∙ is.waited;
  few = subst (λ (ws : List ℕ). All (λ n. n ≤ 1000) ws) (sym leaves.waited) (waits_few jobs leaves.past before.waits);
  some_workers = is.some_workers;
  few_workers = is.few_workers;
  counted = omega arith;
}
