use Rattle.std.proofs.Common.{◌≡◌, take}
use Rattle.grove_desk.proofs.journal.copies_of.Given as goal

abbrev pub invariant-loop-receipt : goal.invariant-loop-receipt
invariant-loop-receipt l = l.copies.items ≡ take l.receipt-index l.receipts
