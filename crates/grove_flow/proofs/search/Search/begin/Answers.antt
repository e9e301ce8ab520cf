use Rattle.grove_flow.proofs.Growing.{growing_start}
use Rattle.grove_flow.proofs.search.Search.begin.Goals as goal

pub offer-requires-clause-within : goal.offer-requires-clause-within
offer-requires-clause-within c = λ key i held. absurd (c.clear.ensures key i held)

pub returns : goal.returns
returns c = record {
  searched = record {
    state_of = c.requires.state;
    fans = c.requires.ready.fans;
    growing = growing_start c.requires.state c.requires.ready.tree
        c.requires.source c.requires.some c.index.ensures c.begin.ensures.ranks c.begin.ensures.vias c.begin.ensures.rooms c.begin.ensures.entries;
    queued = c.in_ok-offer.ensures.queued;
    within = c.in_ok-offer.ensures.within;
  };
}
