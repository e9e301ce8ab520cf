use Rattle.std.proofs.Common.{take}
use Rattle.std.specs.Prelude.{All}
use Rattle.grove_desk.specs.Histories.{StandsIn}
use Rattle.grove_desk.proofs.standing.stand.Given as goal

abbrev pub invariant-loop-receipt : goal.invariant-loop-receipt
invariant-loop-receipt l = All (StandsIn l.rounds) (take l.receipt-index l.receipts)
