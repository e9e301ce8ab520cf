use Rattle.std.proofs.Common.{◌≡◌, ◌≤◌, take, length}
use Rattle.grove_answer.proofs.texts.numbers_of.Given as goal

abbrev pub invariant-loop-number : goal.invariant-loop-number
invariant-loop-number l = (l.numbers.items ≡ take l.number l.records) × (l.number ≤ length l.records)
