use Rattle.std.proofs.Common.{◌≡◌, take}
use Rattle.std.specs.Prelude.{map}
use Rattle.serde_json.specs.View.{view}
use Rattle.grove_wire.specs.Writing.{count_data}
use Rattle.grove_wire.proofs.reply_values.counts_value.Given as goal

-- the items are the counts so far
abbrev pub invariant-loop-count : goal.invariant-loop-count
invariant-loop-count l = map view l.items.items ≡ map count_data (take l.count-index l.counts)
