use Rattle.std.proofs.Common.{◌≡◌, take}
use Rattle.grove_tree.specs.Weights.{unweighed}
use Rattle.grove_effects.specs.Snapshots.{names_of}
use Rattle.grove_data.proofs.naming.names_of.Given as goal

abbrev pub invariant-loop-number : goal.invariant-loop-number
invariant-loop-number l = names_of l.names.items ≡ unweighed (take l.number l.tree)
