-- Rounds: batches that wait together are answered as one.
use Rattle.std.specs.Prelude.{◌≡◌, ℕ, ◌+◌, ◌-◌, ◌^◌, ◌<◌, ◌≤◌, ◌⊎◌, min, max, nat_le, codes, List, [], ◌∷◌, length, map}
use Rattle.std.specs.Prelude.{take, drop, flat_map, get_or, replicate, Option, Some, None, option_map, option_and_then}
use Rattle.std.specs.Prelude.{Result, Ok, if◌then◌else◌}
use Rattle.serde_json.specs.Written.{compact_text}
use Rattle.grove_base.specs.Numbers.{numbers_below}
use Rattle.grove_tree.specs.Trees.{Rows}
use Rattle.grove_access.specs.declared.access.Access.{Access}
use Rattle.grove_access.specs.declared.reply.Reply.{Reply}
use Rattle.grove_build.specs.SettledJobs.{AreSettledJobs}
use Rattle.grove_core.specs.declared.job.Job.{Job}
use Rattle.grove_core.specs.declared.event.Event.{Event}
use Rattle.grove_core.specs.Runs.{IsRun, IsFinished, replies_of, run_records, waits_of}
use Rattle.grove_core.specs.Orders.{placement_order}
use Rattle.grove_run.specs.Runs.{places_of}
use Rattle.grove_wire.specs.declared.fault.WireFault.{WireFault}
use Rattle.grove_wire.specs.Requests.{Asked, Batch, request_of}
use Rattle.grove_wire.specs.Replies.{error_text, round_data}
use Rattle.grove_store.specs.StoreStates.{StoreState, IsStore}
use Rattle.grove_store.specs.Alone.{AnswersAlone}

-- ---- which lines are answered together

-- the lists of a batch, where that is what is asked
abbrev pub lists_asked : Result Asked WireFault → Option (List (List Access))
lists_asked (Ok (Batch lists)) = Some lists
lists_asked _ = None

-- the lists of a line that is a batch without fault
abbrev pub lists_in : Rows → List ℕ → Option (List (List Access))
lists_in rows line = lists_asked (request_of rows line)

-- the lists of each line, where every line is a batch without fault
abbrev pub batches_in : Rows → List (List ℕ) → Option (List (List (List Access)))
batches_in rows [] = Some []
batches_in rows (line ∷ lines) =
    option_and_then (λ lists. option_map (λ batches. lists ∷ batches) (batches_in rows lines)) (lists_in rows line)

-- all lists in order: one batch
abbrev pub joined : List (List (List Access)) → List (List Access)
joined batches = flat_map (λ lists. lists) batches

-- one more, where the lists have room, than how many of the others fit into what is left of it
abbrev pub first_fits : Option (List (List Access)) → ℕ → (ℕ → ℕ) → ℕ
first_fits None room others = 0
first_fits (Some lists) room others = if nat_le (length lists) room then 1 + others (room - length lists) else 0

-- how many of the first lines are batches without fault with at most `room` lists together
abbrev pub fitting : Rows → ℕ → List (List ℕ) → ℕ
fitting rows room [] = 0
fitting rows room (line ∷ lines) = first_fits (lists_in rows line) room (λ left. fitting rows left lines)

-- how many lines one round answers: at least one
abbrev pub round_length : Rows → List (List ℕ) → ℕ
round_length rows lines = max 1 (fitting rows 256 lines)

-- ---- what a round is answered

-- the reply of each line: it has the next places and replies, as many as the line has lists
abbrev pub round_texts : ℕ → List ℕ → List ℕ → List (List Reply) → List (List ℕ)
round_texts round [] places replies = []
round_texts round (lists ∷ others) places replies =
    compact_text (round_data round (take lists places) (take lists replies))
    ∷ round_texts round others (drop lists places) (drop lists replies)

-- the waits with those of the run, at most 1,000 at each node
abbrev pub waits_after : List Job → List Event → List ℕ → List ℕ
waits_after jobs past waits = map (λ node. min 1000 (get_or waits node 0 + waits_of jobs past node))
    (numbers_below (length waits))

-- the store after a round
abbrev pub store_after : StoreState → List Job → List Event → StoreState
store_after before jobs past = record before {
  records = run_records jobs before.records past;
  waits = waits_after jobs past before.waits;
  rounds = before.rounds + 1;
}

-- the batches were run as one, from the store's records
pub record RunsRound (before : StoreState) (batches : List (List (List Access))) (replies : List (List ℕ))
    (after : StoreState) : Type 0 where
  pub jobs : List Job
  pub past : List Event
  pub settled : AreSettledJobs before.rows (joined batches) jobs
  pub run : IsRun jobs past
  pub finished : IsFinished jobs past
  pub room : before.rounds < 2 ^ 64 - 1
  pub told : replies ≡ round_texts after.rounds (map length batches)
      (places_of (placement_order before.rows jobs past) (length jobs)) (replies_of jobs before.records past)
  pub left : after ≡ store_after before jobs past

-- each line has the same refusal, and the store is as it was
abbrev pub RefusesRound : List ℕ → StoreState → List (List (List Access)) → List (List ℕ) → StoreState → Type 0
RefusesRound name before batches replies after = (replies ≡ replicate (length batches) (error_text name))
    × (after ≡ before)

-- a run that failed, or a count of rounds that can't grow
abbrev pub FailsRound : StoreState → List (List (List Access)) → List (List ℕ) → StoreState → Type 0
FailsRound before batches replies after =
    ((before.rounds < 2 ^ 64 - 1)
    × (RefusesRound (codes "foreign") before batches replies after
    ⊎ RefusesRound (codes "unfinished") before batches replies after))
    ⊎ ((before.rounds ≡ 2 ^ 64 - 1) × RefusesRound (codes "rounds") before batches replies after)

-- lines that are all batches are a round; any other line is answered alone
abbrev pub AnswersLines : StoreState → List (List ℕ) → Option (List (List (List Access))) → List (List ℕ) → StoreState
    → Type 0
AnswersLines before lines None replies after =
    (line : List ℕ) × (reply : List ℕ) × (lines ≡ line ∷ []) × (replies ≡ reply ∷ [])
    × AnswersAlone before line reply after
AnswersLines before lines (Some batches) replies after =
    (0 < length lines) × (length (joined batches) ≤ 256)
    × (RunsRound before batches replies after ⊎ FailsRound before batches replies after)

-- batches without fault were run, unless no further round can be counted
abbrev pub RunsBatches : StoreState → List (List ℕ) → List (List ℕ) → StoreState → Type 0
RunsBatches before lines replies after = (batches : List (List (List Access)))
    → batches_in before.rows lines ≡ Some batches → before.rounds < 2 ^ 64 - 1 → RunsRound before batches replies after

-- a lawful round: what lines are answered together, and the store that they leave
pub record IsLawfulRound (before : StoreState) (lines replies : List (List ℕ)) (after : StoreState) : Type 0 where
  pub store : IsStore before
  pub answered : AnswersLines before lines (batches_in before.rows lines) replies after

-- a lawful answer: that of one line
abbrev pub IsLawfulAnswer : StoreState → List ℕ → List ℕ → StoreState → Type 0
IsLawfulAnswer before line reply after = IsLawfulRound before (line ∷ []) (reply ∷ []) after

-- that of a store whose caller does all by itself: a batch is run
abbrev pub IsAnswerAlone : StoreState → List ℕ → List ℕ → StoreState → Type 0
IsAnswerAlone before line reply after = IsLawfulAnswer before line reply after
    × RunsBatches before (line ∷ []) (reply ∷ []) after
