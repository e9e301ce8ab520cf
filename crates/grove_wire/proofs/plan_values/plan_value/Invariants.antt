use Rattle.std.proofs.Common.{◌≡◌, take}
use Rattle.std.specs.Prelude.{map, Ok}
use Rattle.serde_json.specs.View.{view}
use Rattle.grove_wire.specs.Outcomes.{each_from}
use Rattle.grove_wire.specs.declared.place.Part.TheVariants.{Plan}
use Rattle.grove_wire.specs.Places.{whole_of}
use Rattle.grove_wire.proofs.Turns.{step_in}
use Rattle.grove_wire.specs.Writing.{step_data}
use Rattle.grove_wire.proofs.plan_values.plan_value.Given as goal

-- the items are the steps so far, and read as these
abbrev pub invariant-loop-step : goal.invariant-loop-step
invariant-loop-step l = record {
  value : map view l.items.items ≡ map (step_data l.tree) (take l.step-index l.plan);
  reads_back : each_from (step_in l.tree (whole_of Plan)) 0 (map view l.items.items) ≡ Ok (take l.step-index l.plan);
}
