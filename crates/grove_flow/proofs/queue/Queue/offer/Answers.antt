use Rattle.grove_flow.proofs.Offering.{queued_both}
use Rattle.grove_flow.proofs.queue.Queue.offer.Goals as goal

pub returns-clause-queued : goal.returns-clause-queued
returns-clause-queued c =
    queued_both c.args.state.now c.args.tree.now c.args.v c.args.self.now c.offer_chain.new.self c.offer_chain-2.new.self c.requires.fans c.requires.past
    c.in_ok-offer_chain.ensures.offered.0 c.in_ok-offer_chain.ensures.offered.1
    c.in_ok-offer_chain-2.ensures.offered.0 c.in_ok-offer_chain-2.ensures.offered.1
