use Rattle.std.proofs.Common.{◌≡◌, take}
use Rattle.grove_core.specs.Runs.{IsRun}
use Rattle.grove_core.specs.Replays.{past_after}
use Rattle.grove_core.proofs.machine.Core.follow.Given as goal

abbrev pub invariant-loop-at : goal.invariant-loop-at
invariant-loop-at l = record {
  history : l.self ≡ record l.initial.self { history = take l.at l.events };
  run : IsRun l.initial.self.jobs (past_after l.events l.at);
}
