-- For the proofs alone: checks that are read a member at a time.
use Rattle.std.specs.Prelude.{◌≡◌, codes, List, Option, option_and_then, Result, Ok}
use Rattle.serde_json.specs.Data.{Data, Members}
use Rattle.serde_json.specs.Find.{get_member}
use Rattle.grove_tree.specs.Trees.{Rows}
use Rattle.grove_plan.specs.declared.step.Step.{Step}
use Rattle.grove_proof.specs.declared.flow.FlowRow.{FlowRow}
use Rattle.grove_wire.specs.declared.fault.WireFault.{WireFault}
use Rattle.grove_wire.specs.declared.fault.WireFault.TheVariants.{Shape}
use Rattle.grove_wire.specs.declared.place.Part.{Part}
use Rattle.grove_wire.specs.declared.place.Part.TheVariants as part
use Rattle.grove_wire.specs.declared.request.Request.{Request}
use Rattle.grove_wire.specs.declared.versions.Version.{Version}
use Rattle.grove_wire.specs.Forms.{version_of, as_list}
use Rattle.grove_wire.specs.Outcomes.{◌>>=◌, or_fault, few_on}
use Rattle.grove_wire.specs.Places.{whole_of}
use Rattle.grove_wire.specs.Reading.{list_of, step_at, flow_row_at}
use Rattle.grove_wire.specs.Requests as asks
use Rattle.grove_wire.specs.Requests.{Asked, asked_of}
use Rattle.grove_line.specs.declared.check.Check.{Check}
use Rattle.grove_line.specs.ListReading.{read_in}

-- what is asked for
abbrev pub asked : Result Request WireFault → Result Asked WireFault
asked outcome = outcome >>= λ request. Ok (asked_of request)

-- the version that is told or not
abbrev pub version_told : Option Data → Result Version WireFault
version_told told = or_fault (Shape (whole_of part.Whole)) (version_of told)

-- the items of a part of a check, which is told or not
abbrev pub items_told : Part → Option Data → Result (List Data) WireFault
items_told of told = or_fault (Shape (whole_of of)) (option_and_then as_list told)

-- a plan and a flow that are told or not
abbrev pub plan_told : Rows → Option Data → Result (List Step) WireFault
plan_told tree told = items_told part.Plan told >>= few_on 4294967295 (step_at tree) (whole_of part.Plan)

abbrev pub flow_told : Rows → Option Data → Result (List FlowRow) WireFault
flow_told tree told = items_told part.Flow told >>= few_on 4294967295 (flow_row_at tree) (whole_of part.Flow)

-- each part of a check is read so
pub record IsCheck (tree : Rows) (check : Check) (ms : Members) : Type 0 where
  pub version : check.version ≡ version_told (get_member (codes "version") ms)
  pub list : (version : Version) → read_in version check.list
      ≡ (items_told part.List (get_member (codes "list") ms) >>= list_of tree version (whole_of part.List))
  pub plan : check.plan ≡ plan_told tree (get_member (codes "plan") ms)
  pub flow : check.flow ≡ flow_told tree (get_member (codes "flow") ms)

-- what is asked for, by the parts
abbrev pub asked_in : Check → Result Asked WireFault
asked_in check = check.version >>= λ version. read_in version check.list >>= λ list.
    check.plan >>= λ plan. check.flow >>= λ flow. Ok (asks.Check list plan flow)
