use Rattle.std.proofs.Common.{◌∙◌}
use Rattle.grove_desk.specs.Histories.{IsDeskReceipt}
use Rattle.grove_desk.proofs.Turns.{next_receipt}
use Rattle.grove_desk.proofs.board.settle_answered.Goals as goal

pub state_of-state-requires : goal.state_of-state-requires
state_of-state-requires g c =
    (next_receipt (IsDeskReceipt g.K.Keeper.stands_for g.B.Opening.store g.B.Opening.kept) c.next-in-loop-asked.result
    c.loop-asked.receipts.rest.items c.next-in-loop-asked.new.self.rest.items c.next-in-loop-asked.ensures.items
    c.loop-asked.invariant.left).0

pub loop-asked-preserved : goal.loop-asked-preserved
loop-asked-preserved g c = record {
  next = tt;
  ends = tt;
  kept = (
    c.in-Some.ensures.steps.2.0 ∙ c.loop-asked.invariant.kept.0,
    c.in-Some.ensures.steps.2.1 ∙ c.loop-asked.invariant.kept.1,
    c.in-Some.ensures.steps.2.2 ∙ c.loop-asked.invariant.kept.2,
  );
  left = (next_receipt (IsDeskReceipt g.K.Keeper.stands_for g.B.Opening.store g.B.Opening.kept)
      c.next-in-loop-asked.result c.loop-asked.receipts.rest.items c.next-in-loop-asked.new.self.rest.items c.next-in-loop-asked.ensures.items
      c.loop-asked.invariant.left).1;
}
