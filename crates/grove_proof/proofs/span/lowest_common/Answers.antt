-- Each goal is a step of the lemmas on the lowest node so far.
use Rattle.grove_access.specs.Lists.{nodes_of}
use Rattle.grove_access.proofs.Lists.{node_at}
use Rattle.grove_proof.proofs.LowestCommon.{lowest_start, lowest_step}
use Rattle.grove_proof.proofs.span.lowest_common.Goals as goal

pub loop-access-init : goal.loop-access-init
loop-access-init c = lowest_start c.args.tree.now (nodes_of c.args.list.now) c.get-lowest.result.node c.requires.fits (node_at c.args.list.now 0 c.get-lowest.result c.get-lowest.ensures)

pub meet-lowest-requires-clause-second : goal.meet-lowest-requires-clause-second
meet-lowest-requires-clause-second c = c.requires.fits c.loop-access.access c.get.result.node (node_at c.args.list.now c.loop-access.access c.get.result c.get.ensures)

pub loop-access-preserved : goal.loop-access-preserved
loop-access-preserved c =
    lowest_step c.args.tree.now (nodes_of c.args.list.now) c.loop-access.access c.loop-access.lowest c.get.result.node c.meet-lowest.result c.requires.tree c.loop-access.invariant
    (node_at c.args.list.now c.loop-access.access c.get.result c.get.ensures) c.meet-lowest.ensures
