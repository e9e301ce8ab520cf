use Rattle.std.proofs.Common.{◌≡◌, take}
use Rattle.grove_access.specs.Lists.{nodes_of}
use Rattle.grove_span.proofs.targets.targets_of.Given as goal

abbrev pub invariant-loop-access : goal.invariant-loop-access
invariant-loop-access l = l.targets.items ≡ take l.access (nodes_of l.list)
