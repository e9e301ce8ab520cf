use denote.Param.Send.{sendable}
use Rattle.std.proofs.Crossing.{crosses}
use Rattle.grove_desk.proofs.Sharing.{Desk-sync}
use Rattle.grove_serve.proofs.Sharing.{Doors-sync, Slots-sync}
use Rattle.grove_serve.proofs.seconds.fn.serve_beside.scope.Goals as goal

pub spawn-served-requires-send-F : goal.spawn-served-requires-send-F
spawn-served-requires-send-F g c κs within =
    search (sendable, crosses, c.requires, Desk-sync, Doors-sync, Slots-sync) depth 60 fits 4000
