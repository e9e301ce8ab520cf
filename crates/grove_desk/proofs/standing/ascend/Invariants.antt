use Rattle.std.proofs.Common.{ℕ, ◌+◌, ◌<◌, get_or}
use Rattle.grove_desk.specs.Receipts.{ReceiptState}
use Rattle.grove_desk.proofs.standing.ascend.Given as goal

abbrev pub invariant-loop-place : goal.invariant-loop-place
invariant-loop-place l = (k : ℕ) (other : ReceiptState) → k + 1 < l.place
    → (get_or l.receipts k other).number < (get_or l.receipts (k + 1) other).number
