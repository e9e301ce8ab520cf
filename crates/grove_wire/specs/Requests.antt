-- What a session line asks for: the one member of an object, and what that reads as.
use Rattle.std.specs.Prelude.{ℕ, codes, bytes_eq, List, Option, Some, None, option_and_then, Result, Ok, Err}
use Rattle.std.specs.Prelude.{if◌then◌else◌}
use Rattle.serde_json.specs.Data.{Data, Members, no_members, member}
use Rattle.serde_json.specs.Find.{as_object}
use Rattle.grove_tree.specs.Trees.{Rows}
use Rattle.grove_access.specs.declared.access.Access.{Access}
use Rattle.grove_plan.specs.declared.step.Step.{Step}
use Rattle.grove_proof.specs.declared.flow.FlowRow.{FlowRow}
use Rattle.grove_wire.specs.declared.fault.WireFault.{WireFault}
use Rattle.grove_wire.specs.declared.fault.WireFault.TheVariants.{BadJson, Shape}
use Rattle.grove_wire.specs.declared.place.Part.TheVariants as part
use Rattle.grove_wire.specs.declared.request.Request.{Request}
use Rattle.grove_wire.specs.declared.request.Request.TheVariants as request
use Rattle.grove_wire.specs.declared.versions.Version.TheVariants.{Second}
use Rattle.grove_wire.specs.Outcomes.{◌>>=◌, or_fault, of_form}
use Rattle.grove_wire.specs.Places.{whole_of}
use Rattle.grove_wire.specs.Forms.{as_list}
use Rattle.grove_wire.specs.Reading.{value_of, object_at, list_on, lists_of, list_in, plan_in, flow_in}

-- what is asked for, with lists in place of what keeps them
pub data Asked : Type 0 where
  Plan : List Access → Asked
  Check : List Access → List Step → List FlowRow → Asked
  Batch : List (List Access) → Asked
  Weights : Asked
  Reweigh : Asked

abbrev pub asked_of : Request → Asked
asked_of (request.Plan list) = Plan list
asked_of (request.Check list plan flow) = Check list plan flow
asked_of (request.Batch lists) = Batch lists.items
asked_of request.Weights = Weights
asked_of request.Reweigh = Reweigh

-- the one member of an object that has just one, with its name
abbrev pub only_of : Members → Option (List ℕ × Data)
only_of (member name d no_members) = Some (name, d)
only_of _ = None

abbrev pub only_member : Data → Option (List ℕ × Data)
only_member d = option_and_then only_of (as_object d)

-- a plan is asked for a list whose accesses may have lengths
unfoldable pub plan_of : Rows → Data → Result Asked WireFault
plan_of tree d = list_on tree Second (whole_of part.List) d >>= λ list. Ok (Plan list)

-- a check is asked for as a document is read: its version, its list, its plan and its flow
unfoldable pub check_of : Rows → Data → Result Asked WireFault
check_of tree d = do
  object ← object_at (whole_of part.Whole) d
  list ← list_in tree object
  plan ← plan_in tree object
  flow ← flow_in tree object
  Ok (Check list plan flow)

-- a batch is asked for lists whose accesses may have lengths
unfoldable pub batch_of : Rows → Data → Result Asked WireFault
batch_of tree d = do
  ds ← of_form as_list (whole_of part.Lists) d
  lists ← lists_of tree Second ds
  Ok (Batch lists)

-- what a name asks for, with its value; that of the last two isn't looked at
unfoldable pub named_of : Rows → List ℕ → Data → Result Asked WireFault
named_of tree name d =
    if bytes_eq name (codes "plan") then plan_of tree d
    else if bytes_eq name (codes "check") then check_of tree d
    else if bytes_eq name (codes "batch") then batch_of tree d
    else if bytes_eq name (codes "weights") then Ok Weights
    else if bytes_eq name (codes "reweigh") then Ok Reweigh
    else Err (Shape (whole_of part.Whole))

unfoldable pub request_of : Rows → List ℕ → Result Asked WireFault
request_of tree line = do
  d ← or_fault BadJson (value_of line)
  only ← of_form only_member (whole_of part.Whole) d
  named_of tree only.0 only.1
