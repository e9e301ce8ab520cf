use denote.Param.Send.{sendable}
use Rattle.std.proofs.Crossing.{crosses}
use Rattle.grove_serve.proofs.Sharing.{Doors-sync, Slots-sync}
use Rattle.grove_serve.proofs.connections.fn.open_guarded.scope.Goals as goal

pub spawn-guarded-requires-send-F : goal.spawn-guarded-requires-send-F
spawn-guarded-requires-send-F g c κs within =
    search (sendable, crosses, c.requires, Doors-sync, Slots-sync) depth 60 fits 4000
