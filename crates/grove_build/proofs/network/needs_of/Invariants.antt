use Rattle.std.proofs.Common.{◌≡◌, ◌++◌, drop}
use Rattle.grove_build.specs.Networks.{needs_from}
use Rattle.grove_build.proofs.network.needs_of.Given as goal

abbrev pub invariant-loop-weight : goal.invariant-loop-weight
invariant-loop-weight l = l.needs.items ++ needs_from (drop l.weight-index l.weights) ≡ needs_from l.weights
