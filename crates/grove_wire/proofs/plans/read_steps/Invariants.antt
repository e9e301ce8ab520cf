use Rattle.std.proofs.Common.{◌≡◌}
use Rattle.std.specs.Prelude.{map, vec_len}
use Rattle.serde_json.specs.View.{view}
use Rattle.grove_wire.specs.Outcomes.{each_from}
use Rattle.grove_wire.proofs.Turns.{step_in}
use Rattle.grove_wire.proofs.Each.{with_front, rest_read}
use Rattle.grove_wire.proofs.plans.read_steps.Given as goal

-- what is read so far, and then what is left, is what the whole reads as
abbrev pub invariant-loop-at : goal.invariant-loop-at
invariant-loop-at l = record {
  read : with_front l.steps.items (rest_read (step_in l.fn.finder l.place) l.items l.at)
      ≡ each_from (step_in l.fn.finder l.place) 0 (map view l.items);
  few : vec_len l.steps ≡ l.at;
  same : l.finder ≡ l.fn.finder;
}
