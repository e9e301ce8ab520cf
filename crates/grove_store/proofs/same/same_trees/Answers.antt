use Rattle.std.proofs.Common.{refl, arith}
use Rattle.grove_store.proofs.Equal.{same_rows}
use Rattle.grove_store.proofs.same.same_trees.Goals as goal

pub returns : goal.returns
returns c = (
  λ _. same_rows c.args.tree.now c.args.other.now (c.if-not-same_names.ensures.0 refl) (λ node lt. c.loop-number.invariant node (omega arith)),
  λ _. refl,
)
