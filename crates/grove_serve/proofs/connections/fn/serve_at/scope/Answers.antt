use denote.Param.Send.{sendable}
use Rattle.std.proofs.Crossing.{crosses}
use Rattle.grove_desk.proofs.Sharing.{Desk-sync}
use Rattle.grove_serve.proofs.Sharing.{Slots-sync}
use Rattle.grove_serve.proofs.connections.fn.serve_at.scope.Goals as goal

pub spawn-told-requires-send-F : goal.spawn-told-requires-send-F
spawn-told-requires-send-F g c κs within =
    search (sendable, crosses, c.requires, Desk-sync, Slots-sync) depth 60 fits 4000
