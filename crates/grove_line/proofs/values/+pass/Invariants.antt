use Rattle.std.proofs.Common.{List, ◌+◌, ◌*◌, length}
use Rattle.serde_json.specs.Data.{Data, Members}
use Rattle.grove_line.specs.TokenValues.{ItemsSoFar}
use Rattle.grove_line.proofs.TokenValues.{MembersSoFar, size}
use Rattle.grove_line.proofs.values.+pass.Given as goal

abbrev pub decreases-pass : goal.decreases-pass
decreases-pass l = 3 * l.depth + 1

abbrev pub decreases-pass_opened : goal.decreases-pass_opened
decreases-pass_opened l = size l.opened

abbrev pub decreases-pass_items : goal.decreases-pass_items
decreases-pass_items l = 3 * l.depth + 2

abbrev pub decreases-pass_members : goal.decreases-pass_members
decreases-pass_members l = 3 * l.depth + 2

abbrev pub invariant-pass_items-loop-reader : goal.invariant-pass_items-loop-reader
invariant-pass_items-loop-reader l = (front : List Data) × ItemsSoFar l.depth l.initial.reader l.reader front

abbrev pub decreases-pass_items-loop-reader : goal.decreases-pass_items-loop-reader
decreases-pass_items-loop-reader l = length l.reader

abbrev pub invariant-pass_members-loop-reader : goal.invariant-pass_members-loop-reader
invariant-pass_members-loop-reader l = (found : Members) × MembersSoFar l.depth l.initial.reader l.reader found

abbrev pub decreases-pass_members-loop-reader : goal.decreases-pass_members-loop-reader
decreases-pass_members-loop-reader l = length l.reader
