use Rattle.std.proofs.Common.{◌≡◌, take}
use Rattle.std.specs.Prelude.{map}
use Rattle.serde_json.specs.View.{view}
use Rattle.grove_wire.specs.Writing.{number_data}
use Rattle.grove_wire.proofs.replies.numbers_value.Given as goal

-- the items are the numbers so far
abbrev pub invariant-loop-number : goal.invariant-loop-number
invariant-loop-number l = map view l.items.items ≡ map number_data (take l.number-index l.numbers)
