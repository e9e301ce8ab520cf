-- For the proofs alone, as no public contract reaches it: the parts that an answer is made of.
use Rattle.std.specs.Prelude.{◌≡◌, ◌⊎◌, ℕ, ◌+◌, ◌-◌, ◌^◌, ◌<◌, ◌≤◌, min, ℤ, List, [], ◌∷◌, ◌++◌, length, map, sum, take}
use Rattle.std.specs.Prelude.{get_or, All, Option, Some}
use Rattle.serde_json.specs.Data.{Data}
use Rattle.serde_json.specs.Written.{compact_text}
use Rattle.grove_tree.specs.Trees.{Rows}
use Rattle.grove_access.specs.declared.access.Access.{Access}
use Rattle.grove_access.specs.Lists.{nodes_of, AreNodes}
use Rattle.grove_build.specs.SettledJobs.{AreSettledJobs}
use Rattle.grove_core.specs.declared.job.Job.{Job}
use Rattle.grove_core.specs.declared.event.Event.{Event}
use Rattle.grove_core.specs.Runs.{IsRun, IsFinished, AllLegal, replies_of, run_records, waits_of}
use Rattle.grove_core.specs.Orders.{placement_order}
use Rattle.grove_run.specs.Runs.{places_of}
use Rattle.grove_wire.specs.Replies.{changed_data}
use Rattle.grove_meter.specs.Waits.{reweighed}
use Rattle.grove_store.specs.StoreStates.{StoreState, changes, reweighed_store}
use Rattle.grove_store.specs.Rounds.{batches_in, joined, first_fits, fitting, waits_after, RunsRound, FailsRound}
use Rattle.grove_store.specs.Rounds.{RunsBatches, round_texts, round_length, IsLawfulRound}
use Rattle.grove_store.specs.declared.begun.Begun.{Begun}
use Rattle.grove_store.specs.declared.begun.Begun.TheVariants.{Answered, Jobs}

-- the text of a reply of which something holds
abbrev pub IsTextOfReply : (Data → Type 0) → List ℕ → Type 0
IsTextOfReply Tells text = (reply : Data) × Tells reply × (text ≡ compact_text reply)

-- what is asked are these lists, and they have room
abbrev pub FitsRoom : Option (List (List Access)) → ℕ → List (List Access) → Type 0
FitsRoom asked room lists = (asked ≡ Some lists) × (length lists ≤ room)

-- what is asked are no lists, or they have no room
abbrev pub NoneFits : Option (List (List Access)) → ℕ → Type 0
NoneFits asked room = (others : ℕ → ℕ) → first_fits asked room others ≡ 0

-- the lists of a first batch and of the batches on so many of the next lines, and how many are each line's
pub record HasBatches (rows : Rows) (first : List (List Access)) (lines : List (List ℕ)) (read : ℕ) (counts : List ℕ)
    (lists : List (List Access)) : Type 0 where
  pub batches : List (List (List Access))
  pub number : length batches ≡ read
  pub are_read : batches_in rows (take read lines) ≡ Some batches
  pub counted : counts ≡ length first ∷ map length batches
  pub in_order : lists ≡ first ++ joined batches
  pub few : length lists ≤ 256
  pub fit : All (λ list. AreNodes rows (nodes_of list)) lists

-- the same, where no more of the lines can be added
pub record IsRoundOf (rows : Rows) (first : List (List Access)) (lines : List (List ℕ)) (counts : List ℕ)
    (lists : List (List Access)) : Type 0 where
  pub has : HasBatches rows first lines (fitting rows (256 - length first) lines) counts lists

-- what the jobs of a round leave
pub record LeavesRound (before : StoreState) (jobs : List Job) (counts : List ℕ) (replies : List (List ℕ))
    (records : List ℤ) (waits : List ℕ) : Type 0 where
  pub past : List Event
  pub run : IsRun jobs past
  pub finished : IsFinished jobs past
  pub told : replies ≡ round_texts (before.rounds + 1) counts
      (places_of (placement_order before.rows jobs past) (length jobs)) (replies_of jobs before.records past)
  pub recorded : records ≡ run_records jobs before.records past
  pub waited : waits ≡ waits_after jobs past before.waits

-- a node's waits with those of a run, at most 1,000
abbrev pub waits_at : List Job → List Event → List ℕ → ℕ → ℕ
waits_at jobs past waits node = min 1000 (get_or waits node 0 + waits_of jobs past node)

-- each node has what it had, or what is new of it
abbrev pub AreOldOrNew : (ℕ → ℕ) → List ℕ → List ℕ → Type 0
AreOldOrNew new before after = (node : ℕ) → (get_or after node 0 ≡ get_or before node 0)
    ⊎ (get_or after node 0 ≡ new node)

-- a round over lists, of which each line has so many
abbrev pub AnswersRound : StoreState → List (List Access) → List ℕ → List (List ℕ) → StoreState → Type 0
AnswersRound before lists counts replies after = (batches : List (List (List Access))) → joined batches ≡ lists
    → map length batches ≡ counts
    → RunsRound before batches replies after ⊎ FailsRound before batches replies after

-- the same, over the jobs of the lists
abbrev pub AnswersJobs : StoreState → List Job → List ℕ → List (List ℕ) → StoreState → Type 0
AnswersJobs before jobs counts replies after = (lists : List (List Access)) → AreSettledJobs before.rows lists jobs
    → AnswersRound before lists counts replies after

-- a round over lists that was run
abbrev pub RunsLists : StoreState → List (List Access) → List ℕ → List (List ℕ) → StoreState → Type 0
RunsLists before lists counts replies after = (batches : List (List (List Access))) → joined batches ≡ lists
    → map length batches ≡ counts → RunsRound before batches replies after

-- the same, over the jobs of the lists
abbrev pub RunsJobs : StoreState → List Job → List ℕ → List (List ℕ) → StoreState → Type 0
RunsJobs before jobs counts replies after = (lists : List (List Access)) → AreSettledJobs before.rows lists jobs
    → RunsLists before lists counts replies after

-- the replies of a lawful round of the first of the lines
abbrev pub AnswersFirst : StoreState → List (List ℕ) → List (List ℕ) → StoreState → Type 0
AnswersFirst before lines replies after = (length replies ≡ round_length before.rows lines)
    × IsLawfulRound before (take (length replies) lines) replies after

-- the first of the lines were run, if they are batches
abbrev pub RunsFirst : StoreState → List (List ℕ) → List (List ℕ) → StoreState → Type 0
RunsFirst before lines replies after = RunsBatches before (take (length replies) lines) replies after

-- jobs that are to be done: whatever they are answered, so much is answered by that
pub record IsLeft (Answers : List (List ℕ) → StoreState → Type 0) (before : StoreState) (jobs : List Job)
    (counts : List ℕ) : Type 0 where
  pub room : before.rounds < 2 ^ 64 - 1
  pub counted : sum counts ≡ length jobs
  pub few : length jobs ≤ 256
  pub legal : AllLegal before.rows jobs
  pub answers : (replies : List (List ℕ)) (after : StoreState) → AnswersJobs before jobs counts replies after
      → Answers replies after

-- so much is answered, or jobs are left to do for it
abbrev pub Begins : (List (List ℕ) → StoreState → Type 0) → StoreState → Begun → StoreState → Type 0
Begins Answers before (Answered replies) after = Answers replies.items after
Begins Answers before (Jobs jobs counts) after = IsLeft Answers before jobs.items counts.items × (after ≡ before)

-- so much is answered, or it is by jobs that are left to do, if they are run
abbrev pub BeginsRun : (List (List ℕ) → StoreState → Type 0) → StoreState → Begun → StoreState → Type 0
BeginsRun Runs before (Answered replies) after = Runs replies.items after
BeginsRun Runs before (Jobs jobs counts) after = (replies : List (List ℕ)) (left : StoreState)
    → RunsJobs before jobs.items counts.items replies left → Runs replies left

-- the one reply to a reweighing
abbrev pub AnswersReweigh : StoreState → List (List ℕ) → StoreState → Type 0
AnswersReweigh before replies after =
    (replies ≡ compact_text (changed_data (changes before.rows (reweighed before.waits before.rows))) ∷ [])
    × (after ≡ reweighed_store before)
