-- What the threads of connections share, and what they take with them.
use denote.Param.Send.{IsSend, IsSync, sendable}
use Rattle.std.proofs.Crossing.{crosses}
use Rattle.grove_gauge.specs.contracts.places.Place as Place
use Rattle.grove_page.proofs.Sharing.{Paths-sync}
use Rattle.grove_serve.specs.contracts.slots.Slots as Slots
use Rattle.grove_serve.specs.contracts.service.Door as Door
use Rattle.grove_serve.specs.contracts.service.Doors as Doors
use Rattle.grove_serve.specs.contracts.talking.Caller as Caller

-- threads may share slots
pub Slots-sync : IsSync Slots.the_row
Slots-sync = search (sendable, crosses, Paths-sync) depth 60 fits 20000

-- and a door, and all of them
pub Door-sync : IsSync Door.the_row
Door-sync = search (sendable, crosses) depth 40

pub Doors-sync : IsSync Doors.the_row
Doors-sync = search (sendable, crosses, Door-sync) depth 60 fits 4000

-- a connection may go to another thread
pub caller-send : IsSend Caller.the_row
caller-send = search (sendable, crosses) depth 40

-- and so may its place
pub place-send : IsSend Place.the_row
place-send = search (sendable, crosses) depth 40
