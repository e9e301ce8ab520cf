use Rattle.grove_data.proofs.Counting.{AreWaits}
use Rattle.grove_data.proofs.rows.waits_of.Given as goal

abbrev pub invariant-loop-number : goal.invariant-loop-number
invariant-loop-number l = AreWaits l.numbers l.number-index l.waits.items
