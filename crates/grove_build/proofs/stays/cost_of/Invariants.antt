use Rattle.std.proofs.Common.{◌≡◌, ◌*◌, ◌≤◌}
use Rattle.grove_build.specs.Stays.{rows_cost}
use Rattle.grove_build.proofs.stays.cost_of.Given as goal

abbrev pub invariant-loop-k : goal.invariant-loop-k
invariant-loop-k l = record { so_far : l.cost ≡ rows_cost l.weights l.slots l.gaps l.k; few : l.cost ≤ 64000000 * l.k }
