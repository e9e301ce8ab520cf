use Rattle.grove_effects.proofs.Reading.{named_at}
use Rattle.grove_effects.proofs.snapshot.push_names.Goals as goal

pub push_name-requires : goal.push_name-requires
push_name-requires c =
    named_at c.args.names.now c.loop-node.node-index c.node-item.result c.loop-node-test.true c.node-item.is
    c.requires.named
