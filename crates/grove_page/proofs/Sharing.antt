-- Threads may share the paths of a tree.
use denote.Param.Send.{IsSync, sendable}
use Rattle.std.proofs.Crossing.{crosses}
use Rattle.grove_tree.proofs.Sharing.{Tree-sync}
use Rattle.grove_page.specs.contracts.paths.Paths as Paths

pub Paths-sync : IsSync Paths.the_row
Paths-sync = search (sendable, crosses, Tree-sync) depth 60 fits 4000
