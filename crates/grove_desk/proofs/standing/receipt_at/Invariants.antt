use Rattle.std.proofs.Common.{◌≡◌, drop}
use Rattle.std.specs.Prelude.{slice_get}
use Rattle.grove_desk.specs.Histories.{receipts_in}
use Rattle.grove_desk.proofs.standing.receipt_at.Given as goal

abbrev pub invariant-loop-round : goal.invariant-loop-round
invariant-loop-round l = slice_get (receipts_in (drop l.round-index l.rounds)) l.rest ≡ slice_get
    (receipts_in l.rounds) l.number
