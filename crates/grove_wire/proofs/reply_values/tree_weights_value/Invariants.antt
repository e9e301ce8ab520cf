use Rattle.std.proofs.Common.{◌≡◌, take}
use Rattle.std.specs.Prelude.{map}
use Rattle.serde_json.specs.View.{view}
use Rattle.grove_wire.specs.Writing.{count_data}
use Rattle.grove_wire.specs.Replies.{weights_in_rows}
use Rattle.grove_wire.proofs.reply_values.tree_weights_value.Given as goal

-- the items are the weights so far
abbrev pub invariant-loop-number : goal.invariant-loop-number
invariant-loop-number l = map view l.items.items ≡ map count_data (take l.number (weights_in_rows l.tree))
