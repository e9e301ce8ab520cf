use Rattle.std.proofs.Common.{◌≡◌, map, take}
use Rattle.grove_nodes.specs.Numbered.{step_of}
use Rattle.grove_nodes.proofs.step.steps_of.Given as goal

abbrev pub invariant-loop-step : goal.invariant-loop-step
invariant-loop-step l = l.all.items ≡ map step_of (take l.step-index l.steps)
