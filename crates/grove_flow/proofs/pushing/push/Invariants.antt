use Rattle.std.proofs.Common.{slice_index}
use Rattle.grove_flow.proofs.Sending.{IsMoving}
use Rattle.grove_flow.proofs.pushing.push.Given as goal

abbrev pub invariant-loop-v : goal.invariant-loop-v
invariant-loop-v l = IsMoving l.arcs l.tree.ranks.items l.tree.vias.items l.tree.rooms.items l.initial.amounts l.amounts l.source l.target l.by l.v

abbrev pub decreases-loop-v : goal.decreases-loop-v
decreases-loop-v l = slice_index l.tree.ranks.items l.v
