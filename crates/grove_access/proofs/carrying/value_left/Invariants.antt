use Rattle.std.proofs.Common.{◌≡◌, drop}
use Rattle.grove_access.specs.Carries.{value_after}
use Rattle.grove_access.proofs.carrying.value_left.Given as goal

abbrev pub invariant-loop-entry : goal.invariant-loop-entry
invariant-loop-entry l = value_after (drop l.entry-index l.entries) l.node l.left ≡ value_after l.entries l.node l.value
