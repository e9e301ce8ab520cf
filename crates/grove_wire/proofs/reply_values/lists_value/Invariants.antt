use Rattle.std.proofs.Common.{◌≡◌, take}
use Rattle.std.specs.Prelude.{map}
use Rattle.serde_json.specs.View.{view}
use Rattle.grove_wire.specs.Writing.{array_of, reply_data}
use Rattle.grove_wire.proofs.reply_values.lists_value.Given as goal

-- the items are the lists so far
abbrev pub invariant-loop-list : goal.invariant-loop-list
invariant-loop-list l =
    map view l.items.items ≡ map (λ list. array_of reply_data list.now) (take l.list-index l.replies)
