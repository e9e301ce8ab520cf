-- A tree goes from one thread to another, and threads may share it.
use denote.Param.Send.{IsSend, IsSync, sendable}
use Rattle.std.proofs.Crossing.{crosses}
use Rattle.grove_tree.specs.contracts.row.Row as Row
use Rattle.grove_tree.specs.contracts.tree.Tree as Tree

Row-send : IsSend Row.the_row
Row-send = search (sendable, crosses) depth 60 fits 4000

Row-sync : IsSync Row.the_row
Row-sync = search (sendable, crosses) depth 60 fits 4000

pub Tree-send : IsSend Tree.the_row
Tree-send = search (sendable, crosses, Row-send) depth 60 fits 4000

pub Tree-sync : IsSync Tree.the_row
Tree-sync = search (sendable, crosses, Row-sync) depth 60 fits 4000
