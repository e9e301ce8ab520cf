-- What a document with a history reads as: jobs with their plans, the events, and what is said to stand after them.
use Rattle.std.specs.Prelude.{ℕ, codes, ℤ, List, length, map, nat_lt, Option, Result, Ok, Err, if◌then◌else◌}
use Rattle.serde_json.specs.Data.{Data}
use Rattle.serde_json.specs.Find.{get}
use Rattle.grove_tree.specs.Trees.{Rows}
use Rattle.grove_access.specs.declared.reply.Reply.{Reply}
use Rattle.grove_core.specs.declared.job.Job.{Job}
use Rattle.grove_core.specs.declared.event.Event.{Event}
use Rattle.grove_wire.specs.declared.fault.WireFault.{WireFault}
use Rattle.grove_wire.specs.declared.fault.WireFault.TheVariants.{Limit}
use Rattle.grove_wire.specs.declared.place.Part.TheVariants as part
use Rattle.grove_wire.specs.declared.place.Place.{Place}
use Rattle.grove_wire.specs.declared.standing.Standing.{Standing as Said}
use Rattle.grove_wire.specs.declared.versions.Version.{Version}
use Rattle.grove_wire.specs.Outcomes.{◌>>=◌, of_form, if_there, each_from, few_on}
use Rattle.grove_wire.specs.Places.{whole_of, item_of}
use Rattle.grove_wire.specs.Forms.{as_list, as_signed, event_form, reply_form}
use Rattle.grove_wire.specs.Reading.{object_at, version_in, items_in, items_at, list_of, step_at}

-- ---- jobs: few of them, each an object, and then its list, and then its plan

unfoldable pub job_at : Rows → Version → ℕ → Data → Result Job WireFault
job_at tree version at d = do
  object ← object_at (item_of part.Jobs at) d
  accesses ← items_at (item_of part.JobList at) (codes "list") object
  list ← list_of tree version (item_of part.JobList at) accesses
  steps ← items_at (item_of part.JobPlan at) (codes "plan") object
  plan ← few_on 4294967295 (step_at tree) (item_of part.JobPlan at) steps
  Ok (record { list = list; plan = plan })

abbrev pub jobs_of : Rows → Version → List Data → Result (List Job) WireFault
jobs_of tree version ds =
    if nat_lt 256 (length ds) then Err (Limit (whole_of part.Jobs)) else each_from (job_at tree version) 0 ds

unfoldable pub jobs_in : Rows → Data → Result (List Job) WireFault
jobs_in tree d = do
  version ← version_in d
  ds ← items_in part.Jobs d
  jobs_of tree version ds

-- ---- events: at most 2^20 of them

unfoldable pub events_in : Data → Result (List Event) WireFault
events_in d = items_in part.Events d >>= few_on 1048576 (of_form event_form) (whole_of part.Events)

-- ---- what stands after the last event: the records, and the replies of each job; no more than 32 bits number

abbrev pub Standing : Type 0
Standing = List ℤ × List (List Reply)

abbrev pub said_standing : Said → Standing
said_standing said = (said.records.items, map (λ replies. replies.items) said.replies.items)

-- the replies of one job, which stand at a place
unfoldable pub replies_on : Place → Data → Result (List Reply) WireFault
replies_on place d = of_form as_list place d >>= few_on 4294967295 (of_form reply_form) place

unfoldable pub standing_at : Data → Result Standing WireFault
standing_at d = do
  object ← object_at (whole_of part.Standing) d
  numbers ← items_at (whole_of part.StandingRecords) (codes "records") object
  records ← few_on 4294967295 (of_form as_signed) (whole_of part.StandingRecords) numbers
  lists ← items_at (whole_of part.StandingReplies) (codes "replies") object
  replies ← few_on 4294967295 replies_on (whole_of part.StandingReplies) lists
  Ok (records, replies)

-- nothing need be said of it
unfoldable pub standing_in : Data → Result (Option Standing) WireFault
standing_in d = if_there standing_at (get (codes "standing") d)
