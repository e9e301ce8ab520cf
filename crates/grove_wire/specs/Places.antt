-- Where in a document something is wrong.
use Rattle.std.specs.Prelude.{ℕ, codes, List, Some, None, option_map, unwrap_or}
use Rattle.grove_wire.specs.declared.place.Part.{Part}
use Rattle.grove_wire.specs.declared.place.Part.TheVariants as part
use Rattle.grove_wire.specs.declared.place.Place.{Place}

-- a part as a whole
abbrev pub whole_of : Part → Place
whole_of part = record { part = part; at = None; item = None }

-- one item of a part
abbrev pub item_of : Part → ℕ → Place
item_of part at = record { part = part; at = Some at; item = None }

-- an item of a part that is the place, or an item of the item that is
abbrev pub item_on : Place → ℕ → Place
item_on place n = record { part = place.part; at = Some (unwrap_or place.at n); item = option_map (λ k. n) place.at }

-- the word of a part; for a part that is a member of the document it is the name of that member
abbrev pub part_word : Part → List ℕ
part_word part.Whole = codes "whole"
part_word part.Nodes = codes "nodes"
part_word part.List = codes "list"
part_word part.Lists = codes "lists"
part_word part.Plan = codes "plan"
part_word part.Flow = codes "flow"
part_word part.Jobs = codes "jobs"
part_word part.JobList = codes "job-list"
part_word part.JobPlan = codes "job-plan"
part_word part.Events = codes "events"
part_word part.Standing = codes "standing"
part_word part.StandingRecords = codes "standing-records"
part_word part.StandingReplies = codes "standing-replies"
