use Rattle.std.proofs.Common.{vec_capacity}
use Rattle.grove_access.proofs.alone.run_alone.Given as goal
use Rattle.grove_access.proofs.RunAlone.{IsDoneTo}

abbrev pub invariant-loop-access : goal.invariant-loop-access
invariant-loop-access l = IsDoneTo l.list l.initial.records l.access l.records l.replies.items (vec_capacity l.replies)
