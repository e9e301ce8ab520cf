use Rattle.std.proofs.Common.{sym, ◌∙◌, arith}
use Rattle.grove_access.specs.Lists.{nodes_of, lengths_of}
use Rattle.grove_access.proofs.Lists.{nodes_length}
use Rattle.grove_draw.proofs.LockedNodes.{HasSlots, has_slots, released}
use Rattle.grove_draw.proofs.bar.bar_of.Goals as goal

pub unreachable-requires : goal.unreachable-requires
unreachable-requires c = grind (arith, released)

pub cost_of-requires-clause-order : goal.cost_of-requires-clause-order
cost_of-requires-clause-order c =
    (has_slots c.args.tree.now (nodes_of c.args.list.now) c.args.plan.now c.requires.legal (lengths_of c.args.list.now) c.args.node c.in-Some.lock c.in-Some-release_slot.release
    (sym c.lock_slot.ensures ∙ c.in-Some.is) (sym c.release_slot.ensures ∙ c.in-Some-release_slot.is)).order

pub cost_of-requires-clause-within : goal.cost_of-requires-clause-within
cost_of-requires-clause-within c =
    let has : HasSlots (nodes_of c.args.list.now) (lengths_of c.args.list.now) c.args.plan.now c.args.node c.in-Some.lock c.in-Some-release_slot.release =
    has_slots c.args.tree.now (nodes_of c.args.list.now) c.args.plan.now c.requires.legal (lengths_of c.args.list.now) c.args.node c.in-Some.lock c.in-Some-release_slot.release
    (sym c.lock_slot.ensures ∙ c.in-Some.is) (sym c.release_slot.ensures ∙ c.in-Some-release_slot.is) in
    omega (arith, has.within, nodes_length c.args.list.now)

pub returns-clause-bar : goal.returns-clause-bar
returns-clause-bar c = grind (arith, has_slots)
