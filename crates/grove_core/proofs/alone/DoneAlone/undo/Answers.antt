use Rattle.std.proofs.Common.{length, arith}
use Rattle.grove_core.proofs.DoneInTurn.{undo_next, undo_within, last_below}
use Rattle.grove_core.proofs.alone.DoneAlone.undo.Goals as goal

pub apply-requires : goal.apply-requires
apply-requires c =
    last_below (length c.loop-access.records) c.loop-access.overwritten.items c.pop.new.self.items c.in-Some.access
    c.in-Some.ensures.items c.loop-access.invariant.within

pub loop-access-preserved : goal.loop-access-preserved
loop-access-preserved c = record {
  left = grind (arith, undo_next);
  within = undo_within c.loop-access.overwritten.items c.pop.new.self.items c.in-Some.access c.loop-access.records
      c.apply.new.self c.in-Some.ensures.items
      c.apply.ensures.records c.loop-access.invariant.within;
}
