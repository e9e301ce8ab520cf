use Rattle.std.proofs.Common.{◌≡◌, ◌++◌, drop}
use Rattle.grove_build.specs.Stays.{stays_from}
use Rattle.grove_build.proofs.stays.stays_of.Given as goal

abbrev pub invariant-loop-k : goal.invariant-loop-k
invariant-loop-k l =
    l.stays.items ++ stays_from l.gaps l.needed l.k (drop l.k l.rows) ≡ stays_from l.gaps l.needed 0 l.rows
