use Rattle.std.proofs.Common.{◌≡◌, ◌*◌, ◌≤◌}
use Rattle.grove_base.specs.Numbers.{sum_below}
use Rattle.grove_flow.specs.Flows.{takes}
use Rattle.grove_flow.proofs.checking.all_taken.Given as goal

abbrev pub invariant-loop-need : goal.invariant-loop-need
invariant-loop-need l = record {
  is : l.taken ≡ sum_below l.need-index (takes l.needs);
  small : l.taken ≤ l.need-index * 9223372036854775808;
}
