use Rattle.grove_nodes.proofs.Parts.{numbered_whole}
use Rattle.grove_nodes.proofs.part_planning.planned_whole.Goals as goal

pub returns-in-Ok-clause-planned : goal.returns-in-Ok-clause-planned
returns-in-Ok-clause-planned c =
    numbered_whole c.args.part.now c.in_ok-tree.tree c.args.nodes.now c.args.lengths.now c.in-Ok.planned
    c.numbered.result
    c.in_ok-tree.ensures.shape c.in-Ok.ensures.fits c.in-Ok.ensures.planned c.numbered.ensures.plan
    c.numbered.ensures.flow
    c.numbered.ensures.cost
