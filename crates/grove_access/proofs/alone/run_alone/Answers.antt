use Rattle.std.proofs.Common.{refl, arith}
use Rattle.grove_access.proofs.RunAlone.{do_next}
use Rattle.grove_access.proofs.Lists.{node_at}
use Rattle.grove_access.proofs.alone.run_alone.Goals as goal

pub apply-reply-requires : goal.apply-reply-requires
apply-reply-requires c = grind (arith, node_at)

pub loop-access-preserved : goal.loop-access-preserved
loop-access-preserved c = do_next c.args.list.now c.args.records.now c.loop-access.access c.get.result _ _ _ _ _ _ c.get.ensures c.apply-reply.ensures.records (rw (c.put.ensures.items, c.apply-reply.ensures.reply) refl) c.put.ensures.capacity c.loop-access.invariant
