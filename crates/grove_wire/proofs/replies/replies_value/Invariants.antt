use Rattle.std.proofs.Common.{◌≡◌, take}
use Rattle.std.specs.Prelude.{map}
use Rattle.serde_json.specs.View.{view}
use Rattle.grove_wire.specs.Writing.{reply_data}
use Rattle.grove_wire.proofs.replies.replies_value.Given as goal

-- the items are the replies so far
abbrev pub invariant-loop-reply : goal.invariant-loop-reply
invariant-loop-reply l = map view l.items.items ≡ map reply_data (take l.reply-index l.replies)
