use Rattle.grove_nodes.proofs.UnlistedPlaces.{refused}
use Rattle.grove_nodes.proofs.listing.list_over.Goals as goal

pub returns-clause-fault : goal.returns-clause-fault
returns-clause-fault c =
    refused c.args.tree.now c.in-Ok.accesses.items c.args.nodes.now c.args.lengths.now c.of.result
    c.in-Ok.ensures.nodes c.in-Ok.ensures.lengths c.requires.few c.of.ensures.fault
