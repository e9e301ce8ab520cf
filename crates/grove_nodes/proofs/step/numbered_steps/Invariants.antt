use Rattle.std.proofs.Common.{◌≡◌, map, take}
use Rattle.grove_nodes.specs.Numbered.{numbered}
use Rattle.grove_nodes.proofs.step.numbered_steps.Given as goal

abbrev pub invariant-loop-step : goal.invariant-loop-step
invariant-loop-step l = l.all.items ≡ map numbered (take l.step-index l.steps)
