use Rattle.std.proofs.Common.{◌≡◌, ◌++◌, drop}
use Rattle.grove_build.specs.Networks.{start_of}
use Rattle.grove_build.proofs.network.start_of.Given as goal

abbrev pub invariant-loop-row : goal.invariant-loop-row
invariant-loop-row l = l.start.items ++ start_of l.slots (drop l._row-index l.rows) ≡ start_of l.slots l.rows
