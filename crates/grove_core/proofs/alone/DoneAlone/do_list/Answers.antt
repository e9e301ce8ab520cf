use Rattle.std.proofs.Common.{arith}
use Rattle.grove_access.proofs.Lists.{node_at}
use Rattle.grove_core.proofs.DoneInTurn.{does_none, does_next, does_whole, does_length, room_next}
use Rattle.grove_core.proofs.alone.DoneAlone.do_list.Goals as goal

pub loop-place-init : goal.loop-place-init
loop-place-init c = does_none c.args.records.now c.args.self.now

pub do_access-requires-clause-within : goal.do_access-requires-clause-within
do_access-requires-clause-within c = grind (arith, does_length, node_at)

pub do_access-requires-clause-room : goal.do_access-requires-clause-room
do_access-requires-clause-room c = grind (arith, room_next)

pub loop-place-preserved : goal.loop-place-preserved
loop-place-preserved c =
    does_next c.args.list.now c.loop-place.place c.get.result _ _ _ _ _ _ c.get.ensures c.loop-place.invariant
    c.do_access.ensures

pub returns : goal.returns
returns c = does_whole c.args.list.now c.loop-place.place _ _ _ _ (omega arith) c.loop-place.invariant
