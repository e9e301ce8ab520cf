use Rattle.std.proofs.Common.{refl, subst}
use Rattle.std.specs.Prelude.{All}
use Rattle.std.proofs.lemmas.List.{take_all}
use Rattle.std.proofs.lemmas.List.Elements.{All-more}
use Rattle.grove_desk.specs.Histories.{StandsIn}
use Rattle.grove_desk.proofs.standing.stand.Goals as goal

pub loop-receipt-preserved : goal.loop-receipt-preserved
loop-receipt-preserved c = All-more (StandsIn c.args.rounds.now) c.args.receipts.now c.loop-receipt.receipt-index
    c.receipt-item.result c.loop-receipt-test.true c.loop-receipt.invariant
    (subst (StandsIn c.args.rounds.now) c.receipt-item.is (c.if-not-stands_in.ensures.0 refl))

pub returns : goal.returns
returns c = (
  λ yes. subst (All (StandsIn c.args.rounds.now))
      (take_all c.loop-receipt.receipt-index c.args.receipts.now c.loop-receipt-test.false) c.loop-receipt.invariant,
  λ all. refl,
)
