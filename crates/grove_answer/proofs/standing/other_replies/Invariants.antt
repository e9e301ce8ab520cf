use Rattle.std.proofs.Common.{◌≤◌, length, map}
use Rattle.grove_answer.proofs.Differences.{AreAlike}
use Rattle.grove_answer.proofs.standing.other_replies.Given as goal

abbrev pub invariant-loop-at : goal.invariant-loop-at
invariant-loop-at l = record {
  within : l.at ≤ length l.said;
  alike : AreAlike (map (λ list. list.items) l.said) (map (λ list. list.now) l.replies) l.at;
}
