use Rattle.std.proofs.Common.{◌≤◌, length}
use Rattle.grove_answer.proofs.Differences.{AreAlike}
use Rattle.grove_answer.proofs.standing.other_record.Given as goal

abbrev pub invariant-loop-at : goal.invariant-loop-at
invariant-loop-at l = record {
  within : l.at ≤ length l.said;
  alike : AreAlike l.said l.records l.at;
}
