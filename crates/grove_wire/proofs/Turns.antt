-- The items of a list, each read at its place by its number.
use Rattle.std.specs.Prelude.{ℕ, ℤ, List, Result}
use Rattle.serde_json.specs.Data.{Data}
use Rattle.grove_tree.specs.Trees.{Rows, NodeRow}
use Rattle.grove_access.specs.declared.access.Access.{Access}
use Rattle.grove_plan.specs.declared.step.Step.{Step}
use Rattle.grove_proof.specs.declared.flow.FlowRow.{FlowRow}
use Rattle.grove_wire.specs.declared.fault.WireFault.{WireFault}
use Rattle.grove_wire.specs.declared.place.Part.TheVariants as part
use Rattle.grove_wire.specs.declared.place.Place.{Place}
use Rattle.grove_wire.specs.declared.versions.Version.{Version}
use Rattle.grove_wire.specs.Outcomes.{of_form}
use Rattle.grove_wire.specs.Places.{whole_of, item_on}
use Rattle.grove_wire.specs.Forms.{row_form}
use Rattle.grove_wire.specs.Reading.{access_at, list_on, step_at, flow_row_at}

abbrev pub row_in : ℕ → Data → Result (NodeRow × ℤ) WireFault
row_in = λ at. of_form row_form (item_on (whole_of part.Nodes) at)

abbrev pub access_in : Rows → Version → Place → ℕ → Data → Result Access WireFault
access_in tree version place = λ at. access_at tree version (item_on place at)

abbrev pub nth_list : Rows → Version → ℕ → Data → Result (List Access) WireFault
nth_list tree version = λ at. list_on tree version (item_on (whole_of part.Lists) at)

abbrev pub step_in : Rows → Place → ℕ → Data → Result Step WireFault
step_in tree place = λ at. step_at tree (item_on place at)

abbrev pub flow_row_in : Rows → ℕ → Data → Result FlowRow WireFault
flow_row_in tree = λ at. flow_row_at tree (item_on (whole_of part.Flow) at)
