-- A store may go from one thread to another.
use denote.Param.Send.{IsSend, sendable}
use Rattle.std.proofs.Crossing.{crosses}
use Rattle.grove_tree.proofs.Sharing.{Tree-send}
use Rattle.grove_store.specs.contracts.store.Store as Store

pub Store-send : IsSend Store.the_row
Store-send = search (sendable, crosses, Tree-send) depth 60 fits 4000
