-- What each command says of a document: its lines, or the text of the first fault.
use Rattle.std.specs.Prelude.{◌≡◌, ◌≢◌, ◌==◌, ◌⊎◌, ℕ, ◌<◌, ℤ, codes, decimal, List, [], ◌++◌, length, map, reverse}
use Rattle.std.specs.Prelude.{slice_get, Option, Some, None, option_map, option_and_then, IfSome, IsSomeAnd}
use Rattle.std.specs.Prelude.{MatchOption, Result, Ok, Err}
use Rattle.std.specs.List.{before_first}
use Rattle.serde_json.specs.Data.{Data}
use Rattle.serde_json.specs.Find.{get}
use Rattle.serde_json.specs.Written.{compact_text}
use Rattle.grove_base.specs.Numbers.{numbers_below}
use Rattle.grove_tree.specs.Trees.{Rows}
use Rattle.grove_access.specs.declared.access.Access.{Access}
use Rattle.grove_access.specs.declared.reply.Reply.{Reply}
use Rattle.grove_access.specs.Lists.{nodes_of, lengths_of}
use Rattle.grove_access.specs.Effects.{records_after, replies_to}
use Rattle.grove_plan.specs.declared.step.Step.{Step}
use Rattle.grove_plan.specs.declared.fault.PlanFault.{PlanFault}
use Rattle.grove_plan.specs.Plans.{IsLegal, cost}
use Rattle.grove_plan.specs.Faults.{plan_fault_of}
use Rattle.grove_proof.specs.declared.flow.FlowRow.{FlowRow}
use Rattle.grove_proof.specs.declared.fault.ProofFault.{ProofFault}
use Rattle.grove_build.specs.declared.planning.Planned.{Planned}
use Rattle.grove_build.specs.Settled.{IsSettled}
use Rattle.grove_build.specs.Batches.{IsPlanned as IsPlannedList}
use Rattle.grove_draw.specs.declared.picture.Picture.{Picture}
use Rattle.grove_draw.specs.declared.drawing.Drawing.{Drawing}
use Rattle.grove_draw.specs.Pictures.{IsPictureOf}
use Rattle.grove_core.specs.declared.job.Job.{Job}
use Rattle.grove_core.specs.declared.event.Event.{Event}
use Rattle.grove_core.specs.declared.fault.ReplayFault.{ReplayFault}
use Rattle.grove_core.specs.declared.fault.ReplayFault.TheVariants as replay
use Rattle.grove_core.specs.Runs.{AllLegal, IsRun, IsFinished, replies_of, run_records, waits_of}
use Rattle.grove_core.specs.Orders.{placement_order}
use Rattle.grove_core.specs.Laws.{IsEachOnce, IsSerialBy}
use Rattle.grove_core.specs.Replays.{IsReplayFault}
use Rattle.grove_wire.specs.declared.fault.WireFault.{WireFault}
use Rattle.grove_wire.specs.Outcomes.{◌>>=◌, if_there}
use Rattle.grove_wire.specs.Reading.{value_of, tree_in, list_in, lists_in, plan_in, flow_in}
use Rattle.grove_wire.specs.Writing.{plan_data, flow_data, array_of, count_data, number_data, reply_data}
use Rattle.grove_wire.specs.Histories.{Standing, jobs_in, events_in, standing_in}
use Rattle.grove_wire.specs.declared.faults.Fault.{Fault}
use Rattle.grove_wire.specs.declared.faults.Fault.TheVariants as kind
use Rattle.grove_wire.specs.declared.faults.StandingFault.{StandingFault}
use Rattle.grove_wire.specs.declared.faults.StandingFault.TheVariants.{Record, Replies}
use Rattle.grove_wire.specs.Texts.{fault_said}
use Rattle.grove_proof.specs.Checks.{ChecksAs}
use Rattle.grove_build.specs.SettledJobs.{AreSettledJobs}
use Rattle.grove_answer.specs.declared.reading.Task.{Task}

-- lines, or the text of why there are none
abbrev pub Outcome : Type 0
Outcome = Result (List ℕ) (List ℕ)

-- what is said of a fault: its text, up to a line feed
abbrev pub fault_line : Rows → Fault → List ℕ
fault_line rows fault = before_first (λ byte. byte == 10) (fault_said rows fault).1

-- what may be said of what is read, or else its fault's text
abbrev pub ThenSays : {A : Type 0} → Result A WireFault → (A → Outcome → Type 0) → Outcome → Type 0
ThenSays (Ok x) MaySay outcome = MaySay x outcome
ThenSays (Err fault) MaySay outcome = outcome ≡ Err (fault_line [] (kind.Wire fault))

-- ---- what is read of a document: a tree with records and a list, then a plan, then a flow; or lists or a history

unfoldable pub task_in : Data → Result Task WireFault
task_in document = do
  stored ← tree_in document
  list ← list_in stored.0 document
  Ok (record { tree = stored.0; records = stored.1; list = list })

unfoldable pub trial_in : Data → Result (Task × List Step) WireFault
trial_in document = do
  task ← task_in document
  plan ← plan_in task.tree document
  Ok (task, plan)

unfoldable pub claim_in : Data → Result (Task × List Step × List FlowRow) WireFault
claim_in document = do
  trial ← trial_in document
  flow ← flow_in trial.0.tree document
  Ok (trial.0, trial.1, flow)

-- the same of a document over a tree that is there: a list, a plan and a flow
unfoldable pub claim_over : Rows → Data → Result (List Access × List Step × List FlowRow) WireFault
claim_over tree document = do
  list ← list_in tree document
  plan ← plan_in tree document
  flow ← flow_in tree document
  Ok (list, plan, flow)

unfoldable pub batch_in : Data → Result (Rows × List ℤ × List (List Access)) WireFault
batch_in document = do
  stored ← tree_in document
  lists ← lists_in stored.0 document
  Ok (stored.0, stored.1, lists)

-- a task, and a plan for it where the document has one
unfoldable pub sketch_in : Data → Result (Task × Option (List Step)) WireFault
sketch_in document = do
  task ← task_in document
  own ← if_there (λ plan. plan_in task.tree document) (get (codes "plan") document)
  Ok (task, own)

unfoldable pub history_in : Data → Result (Rows × List ℤ × List Job × List Event × Option Standing) WireFault
history_in document = do
  stored ← tree_in document
  jobs ← jobs_in stored.0 document
  events ← events_in document
  standing ← standing_in document
  Ok (stored.0, stored.1, jobs, events, standing)

-- ---- judge: a legal plan's cost, and what its list does when it is done alone

abbrev pub judge_lines : ℕ → List Reply → List ℤ → List ℕ
judge_lines cost replies records = codes "cost " ++ decimal cost
    ++ codes "\nreplies " ++ compact_text (array_of reply_data replies)
    ++ codes "\nrecords " ++ compact_text (array_of number_data records) ++ codes "\n"

abbrev pub unless_faulty : Rows → Option PlanFault → List ℕ → Outcome
unless_faulty tree None lines = Ok lines
unless_faulty tree (Some fault) lines = Err (fault_line tree (kind.Plan fault))

abbrev pub IsJudged : Task × List Step → Outcome → Type 0
IsJudged (task, plan) outcome = outcome ≡ unless_faulty task.tree (plan_fault_of task.tree (nodes_of task.list) plan)
    (judge_lines (cost task.tree (lengths_of task.list) plan) (replies_to task.list task.records)
    (records_after task.list task.records))

-- ---- check: the cost of a plan with a flow that proves it least, and of any other the first fault

abbrev pub checked_outcome : Rows → Result ℕ ProofFault → Outcome
checked_outcome tree (Ok sum) = Ok (codes "cost " ++ decimal sum ++ codes "\n")
checked_outcome tree (Err fault) = Err (fault_line tree (kind.Proof fault))

abbrev pub IsCheckedOver : Rows → List Access × List Step × List FlowRow → Outcome → Type 0
IsCheckedOver tree (list, plan, flow) outcome = (checked : Result ℕ ProofFault) × ChecksAs tree list plan flow checked
    × (outcome ≡ checked_outcome tree checked)

abbrev pub IsChecked : Task × List Step × List FlowRow → Outcome → Type 0
IsChecked (task, plan, flow) = IsCheckedOver task.tree (task.list, plan, flow)

-- ---- plan: the settled plan, with its cost and a flow that proves it least

abbrev pub plan_lines : Rows → Planned → List ℕ
plan_lines tree planned = codes "cost " ++ decimal planned.cost
    ++ codes "\nplan " ++ compact_text (plan_data tree planned.plan)
    ++ codes "\nflow " ++ compact_text (flow_data tree planned.flow) ++ codes "\n"

abbrev pub IsPlannedOver : Rows → List Access → Outcome → Type 0
IsPlannedOver tree list outcome =
    (planned : Planned) × IsPlannedList tree list planned × (outcome ≡ Ok (plan_lines tree planned))

abbrev pub IsPlannedTask : Task → Outcome → Type 0
IsPlannedTask task = IsPlannedOver task.tree task.list

-- a line that reads as the same task, with its settled plan and a flow that proves it least
abbrev pub IsPlannedDocument : Task → Outcome → Type 0
IsPlannedDocument task outcome = (planned : Planned) × IsPlannedList task.tree task.list planned × ((text : List ℕ)
    × (option_map claim_in (value_of text) ≡ Some (Ok (task, planned.plan, planned.flow)))
    × (outcome ≡ Ok (text ++ codes "\n")))

-- ---- draw: the pictures of the settled plan and of the document's own, if it has one, unless that has a fault

-- a picture of the own plan, which is legal; none where there is no such plan
abbrev pub PicturesOwn : Task → Option (List Step) → Option Picture → Type 0
PicturesOwn task own picture = MatchOption own (picture ≡ None) (λ plan. IsLegal task.tree (nodes_of task.list) plan
    × IsSomeAnd picture (IsPictureOf task.tree task.list plan))

pub record IsDrawingOf (task : Task) (own : Option (List Step)) (drawing : Drawing) : Type 0 where
  pub own_picture : PicturesOwn task own drawing.own
  pub plan : List Step
  pub is_settled : IsSettled task.tree (nodes_of task.list) (lengths_of task.list) plan
  pub picture : IsPictureOf task.tree task.list plan drawing.settled

-- some text is made of the drawing
abbrev pub IsDrawn : Task × Option (List Step) → Outcome → Type 0
IsDrawn (task, own) outcome =
    (lines : List ℕ) × (outcome
    ≡ unless_faulty task.tree (option_and_then (plan_fault_of task.tree (nodes_of task.list)) own) lines)

-- ---- run: a finished run of the lists' settled plans, and the order in which doing the lists whole is the same

abbrev pub batch_lines : List ℕ → List (List Reply) → List ℤ → List ℕ → List ℕ
batch_lines order replies records waits = codes "order " ++ compact_text (array_of count_data order)
    ++ codes "\nreplies " ++ compact_text (array_of (array_of reply_data) replies)
    ++ codes "\nrecords " ++ compact_text (array_of number_data records)
    ++ codes "\nwaits " ++ compact_text (array_of count_data waits) ++ codes "\n"

abbrev pub run_lines : Rows → List Job → List ℤ → List Event → List ℕ
run_lines tree jobs records past =
    batch_lines (placement_order tree jobs past) (replies_of jobs records past)
    (run_records jobs records past) (map (waits_of jobs past) (numbers_below (length tree)))

-- a finished run of jobs; their lists done whole, one after the other in the order of the run, give the same
pub record IsSerialRun (tree : Rows) (jobs : List Job) (records : List ℤ) (past : List Event) : Type 0 where
  pub run : IsRun jobs past
  pub finished : IsFinished jobs past
  pub once : IsEachOnce (placement_order tree jobs past) (length jobs)
  pub serial : IsSerialBy (placement_order tree jobs past) jobs records past

abbrev pub IsRunBatch : Rows × List ℤ × List (List Access) → Outcome → Type 0
IsRunBatch (tree, records, lists) (Ok lines) = (jobs : List Job) × (past : List Event)
    × AreSettledJobs tree lists jobs × IsSerialRun tree jobs records past × (lines ≡ run_lines tree jobs records past)
IsRunBatch (tree, records, lists) (Err text) = (text ≡ codes "foreign") ⊎ (text ≡ codes "unfinished")

-- ---- audit: events that are a finished run of jobs, by any legal plans, and what they leave

-- the first place at which two lists differ
abbrev pub DifferFirstAt : {A : Type 0} → List A → List A → ℕ → Type 0
DifferFirstAt xs ys at = (slice_get xs at ≢ slice_get ys at) × ((i : ℕ) → i < at → slice_get xs i ≡ slice_get ys i)

-- the first difference of what is said to stand from what a run left, records before replies
abbrev pub IsMisstated : Standing → List ℤ → List (List Reply) → StandingFault → Type 0
IsMisstated said records replies (Record node) = DifferFirstAt said.0 records node
IsMisstated said records replies (Replies job) = (said.0 ≡ records) × DifferFirstAt said.1 replies job

-- the lines of a finished run by legal plans, which left what is said to stand; or the first thing that is wrong
abbrev pub IsAudited : Rows × List ℤ × List Job × List Event × Option Standing → Outcome → Type 0
IsAudited (tree, records, jobs, events, standing) (Ok lines) = let past = reverse events in
    AllLegal tree jobs × IsSerialRun tree jobs records past
    × IfSome standing (λ said. (said.0 ≡ run_records jobs records past) × (said.1 ≡ replies_of jobs records past))
    × (lines ≡ run_lines tree jobs records past)
IsAudited (tree, records, jobs, events, standing) (Err text) = let past = reverse events in
    ((fault : ReplayFault) × (fault ≢ replay.Memory) × IsReplayFault tree jobs events fault
    × (text ≡ fault_line tree (kind.Replay fault)))
    ⊎ (AllLegal tree jobs × IsSerialRun tree jobs records past × IsSomeAnd standing (λ said. (fault : StandingFault)
    × IsMisstated said (run_records jobs records past) (replies_of jobs records past) fault
    × (text ≡ fault_line tree (kind.Standing fault))))
