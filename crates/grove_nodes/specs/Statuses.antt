-- How calls from other languages end.
use Rattle.std.specs.Prelude.{ℕ}
use Rattle.grove_nodes.specs.declared.status.Status.{Status}
use Rattle.grove_nodes.specs.declared.status.Status.TheVariants.{Done, Refused, Room, Memory, Closed}

abbrev pub number_of : Status → ℕ
number_of Done = 0
number_of Refused = 1
number_of Room = 2
number_of Memory = 3
number_of Closed = 4
