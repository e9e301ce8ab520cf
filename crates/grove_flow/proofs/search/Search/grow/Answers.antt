use Rattle.std.proofs.Common.{slice_index}
use Rattle.grove_flow.specs.Networks.{arc_at}
use Rattle.grove_flow.proofs.Growing.{arc_read, search_tree, growing_more, never_empty, key_new}
use Rattle.grove_flow.proofs.search.Search.grow.Goals as goal

pub next-requires-clause-tree : goal.next-requires-clause-tree
next-requires-clause-tree c = search_tree c.requires.searched.state_of c.requires.searched.growing

pub unreachable-requires : goal.unreachable-requires
unreachable-requires c = never_empty c.requires.searched.state_of c.requires.searched.growing c.requires.met c.in_default.ensures.none

pub reach-next-requires-clause-arc : goal.reach-next-requires-clause-arc
reach-next-requires-clause-arc c =
    let (is, amount_is) = arc_read c.requires.searched.state_of c.requires.searched.growing c.index-2.result.now c.index.result.now c.in-Some.ensures.live c.index.ensures c.index-2.ensures in
    rw (is, c.requires.searched.growing.tree_of.ranks, c.requires.searched.state_of.frame.size) (c.requires.searched.state_of.frame.arcs_of c.in-Some.i c.in-Some.ensures.live.within)

pub reach-next-requires-clause-new : goal.reach-next-requires-clause-new
reach-next-requires-clause-new c =
    let (is, amount_is) = arc_read c.requires.searched.state_of c.requires.searched.growing c.index-2.result.now c.index.result.now c.in-Some.ensures.live c.index.ensures c.index-2.ensures in
    rw (is, amount_is)
    (key_new (arc_at c.args.network.now.arcs.items c.in-Some.i) (slice_index c.args.state.now.amounts.items c.in-Some.i) c.args.state.now.places.items
    c.args.self.now.tree.ranks.items c.args.self.now.tree.entries.items c.in-Some.key c.in-Some.ensures.live.is)

pub offer-requires-clause-tree : goal.offer-requires-clause-tree
offer-requires-clause-tree c = search_tree c.requires.searched.state_of
    (growing_more c.requires.searched.state_of c.requires.searched.growing c.enter.new.self c.requires.met c.in-Some.ensures.live c.in-Some.ensures.least
    c.index.ensures c.index-2.ensures c.reach-next.ensures.within c.reach-next.ensures.entry c.enter.ensures.ranks c.enter.ensures.vias c.enter.ensures.rooms c.enter.ensures.entries)

pub returns : goal.returns
returns c = record {
  searched = record {
    state_of = c.requires.searched.state_of;
    fans = c.requires.searched.fans;
    growing =
        growing_more c.requires.searched.state_of c.requires.searched.growing c.enter.new.self c.requires.met c.in-Some.ensures.live c.in-Some.ensures.least
        c.index.ensures c.index-2.ensures c.reach-next.ensures.within c.reach-next.ensures.entry c.enter.ensures.ranks c.enter.ensures.vias c.enter.ensures.rooms c.enter.ensures.entries;
    queued = c.in_ok-offer.ensures.queued;
    within = c.in_ok-offer.ensures.within;
  };
}
