use Rattle.std.proofs.Common.{◌≡◌, drop}
use Rattle.grove_access.specs.Lists.{lengths_of}
use Rattle.grove_access.specs.ListFaults.{first_bad_length as first_place_of_no_length}
use Rattle.grove_access.proofs.list.first_bad_length.Given as goal

abbrev pub invariant-loop-place : goal.invariant-loop-place
invariant-loop-place l = first_place_of_no_length l.place (lengths_of (drop l.place l.accesses)) ≡ first_place_of_no_length 0 (lengths_of l.accesses)
