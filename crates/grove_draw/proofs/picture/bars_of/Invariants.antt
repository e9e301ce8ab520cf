use Rattle.grove_access.specs.Lists.{lengths_of}
use Rattle.grove_draw.specs.Bars.{AreBarsBelow}
use Rattle.grove_draw.proofs.picture.bars_of.Given as goal

abbrev pub invariant-loop-number : goal.invariant-loop-number
invariant-loop-number l = AreBarsBelow l.tree (lengths_of l.list) l.plan l.number l.bars.items
