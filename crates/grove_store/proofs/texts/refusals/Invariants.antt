use Rattle.std.proofs.Common.{◌≡◌, replicate}
use Rattle.grove_wire.specs.Replies.{error_text}
use Rattle.grove_store.specs.Refusals.{refusal_name}
use Rattle.grove_store.proofs.texts.refusals.Given as goal

abbrev pub invariant-loop-line : goal.invariant-loop-line
invariant-loop-line l = l.replies.items ≡ replicate l._line (error_text (refusal_name l.refusal))
