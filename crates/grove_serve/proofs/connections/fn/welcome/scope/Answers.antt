use denote.Param.Send.{sendable}
use Rattle.std.proofs.Crossing.{crosses}
use Rattle.grove_desk.proofs.Sharing.{Desk-sync}
use Rattle.grove_serve.proofs.Sharing.{Slots-sync, caller-send, place-send}
use Rattle.grove_serve.proofs.connections.fn.welcome.scope.Goals as goal

pub spawn-spawned-requires-send-F : goal.spawn-spawned-requires-send-F
spawn-spawned-requires-send-F g c κs within =
    let keeper-send = c.requires.1.0 in
    let rt-sync = c.requires.1.1.1 in
    search (sendable, crosses, keeper-send, rt-sync, place-send, Desk-sync, Slots-sync, caller-send) depth 60 fits 4000
