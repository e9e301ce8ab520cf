use Rattle.std.proofs.Common.{◌≡◌, take}
use Rattle.grove_cut.specs.CutTrees.{plan_at_origin}
use Rattle.grove_nodes.specs.PartPlans.{number_in}
use Rattle.grove_nodes.proofs.part.steps_numbered.Given as goal

abbrev pub invariant-loop-step : goal.invariant-loop-step
invariant-loop-step l = l.all.items ≡ plan_at_origin (number_in l.part) (take l.step-index l.steps)
