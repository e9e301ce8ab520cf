use Rattle.std.proofs.Common.{◌≡◌, None}
use Rattle.grove_access.specs.Lists.{nodes_of, lengths_of}
use Rattle.grove_plan.specs.Faults.{steps_fault}
use Rattle.grove_plan.specs.Tallies.{IsTally}
use Rattle.grove_plan.proofs.judging.follow.Given as goal

abbrev pub invariant-loop-position : goal.invariant-loop-position
invariant-loop-position l =
    IsTally l.tree (lengths_of l.list) l.plan l.position l.tally × (steps_fault l.tree (nodes_of l.list) l.plan l.position ≡ None)
