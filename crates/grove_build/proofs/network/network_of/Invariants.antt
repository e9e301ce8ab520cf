use Rattle.std.proofs.Common.{◌≡◌, ◌++◌, drop}
use Rattle.grove_build.specs.Networks.{arcs_from}
use Rattle.grove_build.proofs.network.network_of.Given as goal

abbrev pub invariant-loop-k : goal.invariant-loop-k
invariant-loop-k l = l.arcs.items ++ arcs_from l.base l.k (drop l.k l.rows) ≡ arcs_from l.base 0 l.rows
