use Rattle.std.proofs.Common.{◌≡◌, drop}
use Rattle.grove_access.specs.Lists.{nodes_of}
use Rattle.grove_access.specs.ListFaults.{first_beyond as first_place_beyond}
use Rattle.grove_access.proofs.list.first_beyond.Given as goal

abbrev pub invariant-loop-place : goal.invariant-loop-place
invariant-loop-place l = first_place_beyond l.nodes l.place (nodes_of (drop l.place l.accesses)) ≡ first_place_beyond l.nodes 0 (nodes_of l.accesses)
